use Rattle.paje_print.specs.Examples.{quiet_process}
use Rattle.std.proofs.Common.{◌≡◌, ℕ, ◌<◌, ◌≤◌, ap, refl, arith}
use Rattle.std.proofs.lemmas.Option.{same_Some}
use Rattle.trace_base.specs.LegalExamples.{lasting, track_of_kind}
use Rattle.paje_print.proofs.canonical_examples.broken_tracks.Goals as goal

pub returns-clause-no_kind : goal.returns-clause-no_kind
returns-clause-no_kind c is =
    let h : 2 < 2 = (is.existing 1 (track_of_kind 0 0) (omega arith)).1 in
    omega (arith, h)

pub returns-clause-on_root : goal.returns-clause-on_root
returns-clause-on_root c is =
    let h : 0 < 0 = is.below_root 1 (track_of_kind 0 0) (omega arith) in
    omega (arith, h)

pub returns-clause-twice : goal.returns-clause-twice
returns-clause-twice c is =
    let h : ◌≡◌ {A = ℕ} 0 1 = is.distinct 0 1 (track_of_kind 1 0) refl refl in
    omega (arith, h)

pub returns-clause-early : goal.returns-clause-early
returns-clause-early c is =
    let spans = is.spans 1 (track_of_kind 0 0, quiet_process) (omega arith) in
    let container : lasting 2 10 ≡ spans.0 = same_Some (lasting 2 10) spans.0 spans.1 in
    let start : 2 ≡ spans.0.start = ap (λ c. c.start) container in
    let same : 0 ≡ spans.0.start = spans.2.0 in
    omega (arith, start, same)

pub returns-clause-illegal : goal.returns-clause-illegal
returns-clause-illegal c is =
    let h : 7 ≤ 3 =
    (is.legal 0 quiet_process (omega arith)).in_order 1 2 0 (omega arith) (omega arith) in
    omega (arith, h)
