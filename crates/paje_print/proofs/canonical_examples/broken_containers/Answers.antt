use Rattle.std.proofs.Common.{◌≤◌, arith}
use Rattle.trace_base.specs.LegalExamples.{lasting}
use Rattle.paje_print.proofs.canonical_examples.broken_containers.Goals as goal

pub returns-clause-backward : goal.returns-clause-backward
returns-clause-backward c is =
    let h : 5 ≤ 4 = is.intervals 2 (lasting 0 0) (omega arith) in
    omega (arith, h)
