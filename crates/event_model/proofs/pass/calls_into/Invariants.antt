use Rattle.std.proofs.Common.{◌≡◌, ◌≤◌, count_by, take}
use Rattle.std.specs.List.{range_with_len}
use Rattle.trace_base.specs.Paths.{makes}
use Rattle.trace_base.specs.Stream.{stack_after}
use Rattle.event_model.specs.Part.{has}
use Rattle.event_model.proofs.pass.calls_into.Given as goal

abbrev pub invariant-loop-event : goal.invariant-loop-event
invariant-loop-event l =
    (l.stack.items ≡ stack_after (take l.event-index l.s.events))
    × (l.calls ≡ count_by (makes (has l.part) l.a l.b l.s) (range_with_len 0 l.event-index))
    × (l.calls ≤ l.event-index)
