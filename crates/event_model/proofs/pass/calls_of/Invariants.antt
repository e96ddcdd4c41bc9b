use Rattle.std.proofs.Common.{◌≡◌, ◌≤◌, count_by, take}
use Rattle.trace_base.specs.Flat.{enters_in}
use Rattle.event_model.proofs.pass.calls_of.Given as goal

abbrev pub invariant-loop-event : goal.invariant-loop-event
invariant-loop-event l =
    (l.calls ≡ count_by (enters_in l.f l.a l.b) (take l.event-index l.event-items))
    × (l.calls ≤ l.event-index)
