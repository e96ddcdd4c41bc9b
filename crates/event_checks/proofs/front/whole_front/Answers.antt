use Rattle.trace_base.specs.declared.stream.Event.{Event}
use Rattle.trace_base.specs.declared.stream.Event.TheVariants.{Enter}
use Rattle.event_checks.proofs.Fronts.{front_next, front_none, front_refused}
use Rattle.event_checks.proofs.front.whole_front.Goals as goal

abbrev none : Event
none = Enter 0 0

pub loop-event-init : goal.loop-event-init
loop-event-init c = front_none c.args.s.now.start

pub returns-in-None-clause-none : goal.returns-in-None-clause-none
returns-in-None-clause-none c =
    front_refused c.args.s.now c.as_slice-event-items.result.now c.loop-event.event-index none
    c.loop-event.front c.as_slice-event-items.ensures c.loop-event-test.true c.loop-event.invariant
    c.in-None.ensures

pub loop-event-preserved : goal.loop-event-preserved
loop-event-preserved c =
    front_next c.args.s.now c.as_slice-event-items.result.now c.loop-event.event-index none
    c.loop-event.front c.in-Some.next c.as_slice-event-items.ensures c.loop-event-test.true
    c.loop-event.invariant c.in-Some.ensures
