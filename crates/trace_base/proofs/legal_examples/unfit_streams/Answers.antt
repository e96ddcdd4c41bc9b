use Rattle.std.proofs.Common.{◌≤◌, refl, arith}
use Rattle.trace_base.proofs.LegalExamples.{starts_at_two}
use Rattle.trace_base.proofs.legal_examples.unfit_streams.Goals as goal

pub returns-clause-illegal : goal.returns-clause-illegal
returns-clause-illegal c fits =
    let h : 4 ≤ 3 = fits.legal.in_order 1 2 0 (omega arith) (omega arith) in omega arith

pub returns-clause-longer : goal.returns-clause-longer
returns-clause-longer c fits =
    let i = fits.interval in starts_at_two i.0 i.1 i.2 i.3 i.4.0

pub returns-clause-no_track : goal.returns-clause-no_track
returns-clause-no_track c fits = let h = fits.interval.2 in cc

pub returns-clause-no_name : goal.returns-clause-no_name
returns-clause-no_name c fits = let h : 3 ≤ 2 = fits.numbered 0 3 3 refl in omega arith
