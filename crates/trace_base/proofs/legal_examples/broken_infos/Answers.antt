use Rattle.std.proofs.Common.{◌≡◌, ℕ, ◌+◌, ◌≤◌, ◌<◌, refl, arith}
use Rattle.trace_base.specs.LegalExamples.{lasting, one_message, track_of_kind}
use Rattle.trace_base.specs.declared.limits.TheConstants.{MAX_TIME}
use Rattle.trace_base.proofs.legal_examples.broken_infos.Goals as goal

pub returns-clause-backward : goal.returns-clause-backward
returns-clause-backward c legal = let h : 5 ≤ 4 = (legal.intervals 1 (lasting 0 0) (omega arith)).0
    in omega arith

pub returns-clause-late : goal.returns-clause-late
returns-clause-late c legal =
    let h : MAX_TIME + 1 ≤ MAX_TIME = (legal.intervals 1 (lasting 0 0) (omega arith)).1 in omega arith

pub returns-clause-container : goal.returns-clause-container
returns-clause-container c legal =
    let h : 2 < 2 = (legal.existing 0 (track_of_kind 0 0) (omega arith)).0 in omega arith

pub returns-clause-kind : goal.returns-clause-kind
returns-clause-kind c legal =
    let h : 1 < 1 = (legal.existing 0 (track_of_kind 0 0) (omega arith)).1 in omega arith

pub returns-clause-twice : goal.returns-clause-twice
returns-clause-twice c legal = let h : ◌≡◌ {A = ℕ} 0 1 = legal.distinct 0 1 (track_of_kind 1 0) refl refl
    in omega arith

pub returns-clause-sender : goal.returns-clause-sender
returns-clause-sender c legal =
    let h : 2 < 2 = (legal.joined 0 (one_message 0 0) (omega arith)).0 in omega arith

pub returns-clause-receiver : goal.returns-clause-receiver
returns-clause-receiver c legal =
    let h : 2 < 2 = (legal.joined 0 (one_message 0 0) (omega arith)).1 in omega arith
