-- Which link events are the two ends of a message, and the order of a table of messages.
use Rattle.std.specs.Prelude.{ℕ, ◌-◌, ◌*◌, Bool, not, ◌&&◌, ◌==◌, nat_eq, if◌then◌else◌, List, [], ◌∷◌, ◌++◌}
use Rattle.std.specs.Prelude.{length, take, filter, fold, slice_get, Option, None, option_map}
use Rattle.std.specs.Prelude.{option_and_then}
use Rattle.std.specs.Cmp.Lexicographic.{pointwise}
use Rattle.std.specs.List.{filter_map, range_with_len}
use Rattle.std.specs.Ordering.{is_lt, nat_cmp, ordering_then}
use Rattle.trace_base.specs.declared.messages.LinkEvent.{LinkEvent}
use Rattle.trace_base.specs.declared.messages.Message.{Message}
use Rattle.trace_base.specs.declared.messages.MsgTable.{MsgTable}

-- whether the two link events have one link type and one key
abbrev pub is_joined : LinkEvent → LinkEvent → Bool
is_joined l m = (l.kind == m.kind) && pointwise nat_eq l.key m.key

-- the starts that have the link type and the key of this one
abbrev pub starts_like : LinkEvent → List LinkEvent → List LinkEvent
starts_like l links = filter (λ m. m.starts && is_joined m l) links

-- the ends that have them
abbrev pub ends_like : LinkEvent → List LinkEvent → List LinkEvent
ends_like l links = filter (λ m. not m.starts && is_joined m l) links

-- the message of this start and this end
abbrev pub message_between : LinkEvent → LinkEvent → Message
message_between start end = record {
  from = start.container;
  to = end.container;
  send = start.time;
  receive = end.time;
  size = start.size;
}

-- The message that this link event starts at place i: a start after k others of its link type and key goes
-- with the end after k others of them.
abbrev pub message_from : List LinkEvent → ℕ → LinkEvent → Option Message
message_from links i l = if l.starts then option_map (message_between l)
    (slice_get (ends_like l links) (length (starts_like l (take i links)))) else None

-- the message that link event i starts
abbrev pub message_at : List LinkEvent → ℕ → Option Message
message_at links i = option_and_then (message_from links i) (slice_get links i)

-- the messages of the link events, in the order of their starts
unfoldable pub messages_started : List LinkEvent → List Message
messages_started links = filter_map (message_at links) (range_with_len 0 (length links))

-- whether the message comes first in a table: by its sender, then its receiver, then when it was sent
abbrev pub comes_before : Message → Message → Bool
comes_before m n = is_lt (ordering_then (ordering_then (nat_cmp m.from n.from) (nat_cmp m.to n.to))
    (nat_cmp m.send n.send))

-- the message put into a table, after those that it doesn't come before
abbrev pub put : Message → List Message → List Message
put m table = filter (λ n. not (comes_before m n)) table ++ m ∷ filter (comes_before m) table

-- the messages in the order of a table; those that tie stay in the order that they have
unfoldable pub in_table_order : List Message → List Message
in_table_order messages = fold (λ table m. put m table) [] messages

-- the table of the link events. Each message is of two of them, and the rest has no partner.
unfoldable pub table_of : List LinkEvent → MsgTable
table_of links = record {
  messages = in_table_order (messages_started links);
  unmatched = length links - 2 * length (messages_started links);
}
