-- The communication matrix of messages over a half-open interval.
use Rattle.std.specs.Prelude.{◌≡◌, ℕ, ◌-◌, Bool, ◌&&◌, ◌==◌, nat_lt, max, List, length, map, filter, fold}
use Rattle.std.specs.Prelude.{sum_by, count_by}
use Rattle.std.specs.List.{Contains}
use Rattle.std.specs.Ordering.{nat_cmp, ordering_then}
use Rattle.std.specs.declared.cmp.Ordering.{Ordering}
use Rattle.trace_base.specs.Flat.{is_within}
use Rattle.trace_base.specs.InOrder.{distinct_in_order, IsRisingListOf}
use Rattle.trace_base.specs.declared.matrix.Matrix.{Matrix}
use Rattle.trace_base.specs.declared.matrix.MatrixRow.{MatrixRow}
use Rattle.trace_base.specs.declared.messages.Message.{Message}

-- the messages that were sent within the interval
abbrev pub sent_within : ℕ → ℕ → List Message → List Message
sent_within a b messages = filter (λ m. is_within a b m.send) messages

-- whether the message was received before it was sent
abbrev pub is_backward : Message → Bool
is_backward m = nat_lt m.receive m.send

-- how long the message was on its way, 0 for one that was received before it was sent
abbrev pub transit_of : Message → ℕ
transit_of m = m.receive - m.send

-- whether the message goes between this pair of containers: the sender and the receiver
abbrev pub is_of : ℕ × ℕ → Message → Bool
is_of p m = (m.from == p.0) && (m.to == p.1)

-- what these messages are for one pair
unfoldable pub pair_row : List Message → ℕ × ℕ → MatrixRow
pair_row messages p = record {
  from = p.0;
  to = p.1;
  count = length (filter (is_of p) messages);
  bytes = sum_by (λ m. m.size) (filter (is_of p) messages);
  transit = sum_by transit_of (filter (is_of p) messages);
  greatest = fold (λ most m. max most (transit_of m)) 0 (filter (is_of p) messages);
  backward = count_by is_backward (filter (is_of p) messages);
}

-- the pair of containers that the message goes between: the sender and the receiver
abbrev pub pair_of : Message → ℕ × ℕ
pair_of m = (m.from, m.to)

-- the order of pairs: by the sender, then the receiver
abbrev pub pair_cmp : ℕ × ℕ → ℕ × ℕ → Ordering
pair_cmp p q = ordering_then (nat_cmp p.0 q.0) (nat_cmp p.1 q.1)

-- the different pairs that have a message, in order
unfoldable pub pairs_of : List Message → List (ℕ × ℕ)
pairs_of messages = distinct_in_order pair_cmp (map pair_of messages)

-- Each pair that has a message is told once, in order. There is one such list.
abbrev pub TellsEachPair : List Message → Type 0
TellsEachPair messages = IsRisingListOf pair_cmp (Contains (map pair_of messages)) (pairs_of messages)
    × ((pairs : List (ℕ × ℕ)) → IsRisingListOf pair_cmp (Contains (map pair_of messages)) pairs
    → pairs ≡ pairs_of messages)

-- the matrix of the messages that were sent within [a, b): a row for each pair that has one
unfoldable pub matrix_of : List Message → ℕ → ℕ → Matrix
matrix_of messages a b = record {
  rows = map (pair_row (sent_within a b messages))
      (pairs_of (sent_within a b messages));
}
