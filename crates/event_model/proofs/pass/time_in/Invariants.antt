use Rattle.std.proofs.Common.{◌≡◌, take}
use Rattle.trace_base.specs.Stream.{stack_after}
use Rattle.event_model.specs.Part.{has}
use Rattle.event_model.proofs.Times.{moment, time_upto}
use Rattle.event_model.proofs.pass.time_in.Given as goal

abbrev pub invariant-loop-event : goal.invariant-loop-event
invariant-loop-event l =
    (l.from ≡ moment l.s l.event-index)
    × (l.stack.items ≡ stack_after (take l.event-index l.s.events))
    × (l.total ≡ time_upto (has l.part) l.a l.b l.s l.event-index)
