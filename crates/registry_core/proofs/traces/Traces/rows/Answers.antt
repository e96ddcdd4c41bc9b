-- The rows so far and those of the traces left are all rows, for which there is room.
use Rattle.std.proofs.Common.{◌≡◌, ◌∷◌, ◌∙◌, ap, arith, false, sym}
use Rattle.std.specs.Map.{values_of}
use Rattle.registry_core.specs.Trace.{Trace}
use Rattle.registry_core.proofs.RowsOfTraces.{all_told, few_next, none_told, passed_next, room_next}
use Rattle.registry_core.proofs.RowsOfTraces.{told_next}
use Rattle.registry_core.proofs.traces.Traces.rows.Goals as goal
use Rattle.registry_core.proofs.traces.Traces.rows.Goals.{In-Some, Then-not-trace}

pub loop-trace-init : goal.loop-trace-init
loop-trace-init c = none_told _ _ _ _ (ap values_of (c.into_iter-trace-iterator.ensures.into_iter_gives
    ∙ c.iter-trace-items.ensures.rest) ∙ c.self.view_is) c.in-Ok.ensures.items
    (omega (arith, c.in-Ok.ensures.capacity, c.requires.count)) c.requires.few

-- the traces left, of which this is the next
next_is : (c : In-Some)
    → values_of c.loop-trace.trace-iterator ≡ c.in-Some.trace.now ∷ values_of c.next.new.self
next_is c = ap values_of c.in-Some.ensures.steps

-- it is open
stays : (c : Then-not-trace) → c.in-Some.trace.now.closing ≡ false
stays c = ap (λ (t : Trace). t.closing) (sym c.trace.view_is) ∙ c.if-not-trace.true

pub row-requires : goal.row-requires
row-requires c = few_next c.in-Some.trace.now c.loop-trace.invariant
    (next_is (goal.at.row-requires c).In-Some)

pub push_reserved-requires : goal.push_reserved-requires
push_reserved-requires c =
    let t = goal.at.push_reserved-requires c in
    let room =
    room_next c.in-Some.trace.now c.loop-trace.invariant (next_is t.In-Some) (stays t.Then-not-trace) in
    omega (arith, room, c.loop-trace.rows.ok.0)

pub loop-trace-preserved-then-not-trace : goal.loop-trace-preserved-then-not-trace
loop-trace-preserved-then-not-trace c =
    let t = goal.at.loop-trace-preserved-then-not-trace c in
    told_next c.in-Some.trace.now c.row.result c.loop-trace.invariant (next_is t.In-Some)
    (stays t.Then-not-trace)
    c.push_reserved.ensures.items c.row.ensures c.push_reserved.ensures.capacity

pub loop-trace-preserved : goal.loop-trace-preserved
loop-trace-preserved c = passed_next c.in-Some.trace.now c.loop-trace.invariant
    (next_is (goal.at.loop-trace-preserved c).In-Some)
    (ap (λ (t : Trace). t.closing) (sym c.trace.view_is) ∙ c.if-not-trace.false)

pub returns : goal.returns
returns c = c.from_vec.ensures ∙ all_told c.loop-trace.invariant (ap values_of c.in-None.ensures.steps.0)
