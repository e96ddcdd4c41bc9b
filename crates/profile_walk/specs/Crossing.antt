-- Nodes that lie across the ends of a half-open interval [a, b).
use Rattle.std.specs.Prelude.{ℕ, ◌+◌, Bool, not, ◌&&◌, ◌||◌, if◌then◌else◌, nat_le, nat_lt}
use Rattle.node_key.specs.Tree.{Kids, Tree, kid, no_kids}

-- Whether a node that begins at `start` and ends at `end` lies across an end of the interval: it neither
-- begins within it and ends before it does, nor ends before it begins, nor begins where it ends or behind.
abbrev pub is_across : (a b start end : ℕ) → Bool
is_across a b start end =
    not (nat_le a start && nat_lt end b) && not (nat_lt end a || nat_le b start)

-- the nodes that lie across an end, among kids the first of whose gaps begins at `from`, and below those
-- that do
abbrev pub crossings_below : (a b from : ℕ) → Kids → ℕ
crossings_below a b from no_kids = 0
crossings_below a b from (kid gap func dur inner more) =
    (if is_across a b (from + gap) (from + gap + dur) then crossings_below a b (from + gap) inner + 1 else 0)
    + crossings_below a b (from + gap + dur) more

-- the same of a tree that begins at a time: itself and the nodes below
abbrev pub crossings : (a b at : ℕ) → Tree → ℕ
crossings a b at t = if is_across a b at (at + t.dur) then crossings_below a b at t.kids + 1 else 0
