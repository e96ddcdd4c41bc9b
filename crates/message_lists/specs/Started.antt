-- The message that a start and an arrival make.
use Rattle.trace_base.specs.declared.messages.LinkEvent.{LinkEvent}
use Rattle.trace_base.specs.declared.messages.Message.{Message}
use Rattle.message_lists.specs.declared.arrivals.Arrival.{Arrival}

abbrev pub message_to : LinkEvent → Arrival → Message
message_to l a = record {
  from = l.container;
  to = a.container;
  send = l.time;
  receive = a.time;
  size = l.size;
}
