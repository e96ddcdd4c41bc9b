-- The trace is taken out exactly where it is over.
use Rattle.std.proofs.Common.{◌≡◌, ◌&&◌, ◌∙◌, None, Some, ap, false, sym}
use Rattle.std.specs.List.{find}
use Rattle.std.specs.Option.{option_map}
use Rattle.list_lemmas.proofs.Found.{find_stricter}
use Rattle.registry_core.specs.Registry.{has_id, kept_trace}
use Rattle.registry_core.specs.Trace.{Trace, is_over, roots_in}
use Rattle.registry_core.proofs.ById.{AreKept-from, filter-not_has_id, filter-not_has_id-none}
use Rattle.registry_core.proofs.ById.{find-has_id-not, find-has_id-some, ids_rise, lent_kept, lookup_kept}
use Rattle.registry_core.proofs.KeptTraces.{IsRising}
use Rattle.registry_core.proofs.traces.Traces.take_over.Goals as goal
use Rattle.registry_core.proofs.traces.Traces.take_over.Goals.{In_err-trace, In_ok-trace}

-- ---- where there is none

-- none is found
none : (c : In_err-trace) → find (λ t. has_id c.args.id t && is_over t) c.args.self.now ≡ None
none c =
    let k = AreKept-from _ _ c.self.invariant.0 c.self.invariant.1 c.self.view_is in
    find_stricter (has_id c.args.id) is_over c.args.self.now
    (sym (lookup_kept c.args.id k) ∙ sym c.in_err-trace.ensures.value)

pub returns-in_err-trace-clause-roots : goal.returns-in_err-trace-clause-roots
returns-in_err-trace-clause-roots c = c.from_residual.ensures
    ∙ sym (ap (option_map (λ (t : Trace). roots_in t.tracks))
    (none (goal.at.returns-in_err-trace-clause-roots c).In_err-trace))

pub returns-in_err-trace-clause-rest : goal.returns-in_err-trace-clause-rest
returns-in_err-trace-clause-rest c = sym (filter-not_has_id-none is_over c.args.id c.args.self.now
    (none (goal.at.returns-in_err-trace-clause-rest c).In_err-trace))

-- ---- where it isn't over

-- what is lent is kept
kept : (c : In_ok-trace) → kept_trace c.args.self.now c.args.id ≡ Some c.in_ok-trace.trace.now
kept c = lent_kept c.args.id c.in_ok-trace.trace.now
    (AreKept-from _ _ c.self.invariant.0 c.self.invariant.1 c.self.view_is) c.in_ok-trace.ensures.value

-- ids rise
rising : (c : In_ok-trace) → IsRising c.args.self.now
rising c = ids_rise (AreKept-from _ _ c.self.invariant.0 c.self.invariant.1 c.self.view_is)

-- none is found
not_over : (c : In_ok-trace) → is_over c.in_ok-trace.trace.now ≡ false
    → find (λ t. has_id c.args.id t && is_over t) c.args.self.now ≡ None
not_over c isnt = find-has_id-not is_over c.args.id c.args.self.now c.in_ok-trace.trace.now (rising c)
    (kept c) isnt

pub returns-then-not-is_over-clause-roots : goal.returns-then-not-is_over-clause-roots
returns-then-not-is_over-clause-roots c = sym (ap (option_map (λ (t : Trace). roots_in t.tracks))
    (not_over (goal.at.returns-then-not-is_over-clause-roots c).In_ok-trace
    (sym c.is_over.ensures ∙ c.if-not-is_over.true)))

pub returns-then-not-is_over-clause-rest : goal.returns-then-not-is_over-clause-rest
returns-then-not-is_over-clause-rest c = sym (filter-not_has_id-none is_over c.args.id c.args.self.now
    (not_over (goal.at.returns-then-not-is_over-clause-rest c).In_ok-trace
    (sym c.is_over.ensures ∙ c.if-not-is_over.true)))

-- ---- where it is over

pub returns-in_err-trace-2-clause-roots : goal.returns-in_err-trace-2-clause-roots
returns-in_err-trace-2-clause-roots c =
    let found = kept (goal.at.returns-in_err-trace-2-clause-roots c).In_ok-trace in
    let none = c.in_err-trace-2.ensures.value in
    absurd cc

pub returns-in_err-trace-2-clause-rest : goal.returns-in_err-trace-2-clause-rest
returns-in_err-trace-2-clause-rest c =
    let found = kept (goal.at.returns-in_err-trace-2-clause-rest c).In_ok-trace in
    let none = c.in_err-trace-2.ensures.value in
    absurd cc

pub returns-clause-roots : goal.returns-clause-roots
returns-clause-roots c =
    let t = goal.at.returns-clause-roots c in
    let found = kept t.In_ok-trace in
    let over = find-has_id-some is_over c.args.id c.args.self.now c.in_ok-trace.trace.now
    (rising t.In_ok-trace) found (sym c.is_over.ensures ∙ c.if-not-is_over.false) in
    ap Some c.into_roots.ensures
    ∙ ap (option_map (λ (t : Trace). roots_in t.tracks)) (c.in_ok-trace-2.ensures.value ∙ found ∙ sym over)

pub returns-clause-rest : goal.returns-clause-rest
returns-clause-rest c =
    let t = goal.at.returns-clause-rest c in
    c.take.ensures.rest ∙ sym (filter-not_has_id is_over c.args.id c.args.self.now c.in_ok-trace.trace.now
    (rising t.In_ok-trace) (kept t.In_ok-trace) (sym c.is_over.ensures ∙ c.if-not-is_over.false))
