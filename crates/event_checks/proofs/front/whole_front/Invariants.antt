use Rattle.std.proofs.Common.{take}
use Rattle.event_checks.specs.Front.{IsFront}
use Rattle.event_checks.proofs.front.whole_front.Given as goal

abbrev pub invariant-loop-event : goal.invariant-loop-event
invariant-loop-event l = IsFront l.s.start (take l.event-index l.s.events) l.front
