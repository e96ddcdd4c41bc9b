-- What is left of the loads in a history: the traces that are open, and the nodes that their trees need.
use Rattle.std.specs.Prelude.{ℕ, Bool, if◌then◌else◌, List, length, map, Option, None, Some}
use Rattle.std.specs.List.{filter_map}
use Rattle.hall_history.specs.History.{Entry, EntryOf, Opened, Published, Sealed, Dropped, Closed, Asked}
use Rattle.hall_history.specs.History.{is_open, open_ids}
use Rattle.node_key.specs.Keys.{distinct}
use Rattle.hall_history.specs.declared.left.Left.{Left}

-- what the entry publishes of a trace that passes the test
abbrev pub published_if : {X : Type 0} → (ℕ → Bool) → EntryOf X → Option X
published_if test (Published id track what) = if test id then Some what else None
published_if test (Opened id info) = None
published_if test (Sealed id) = None
published_if test (Dropped id) = None
published_if test (Closed id) = None
published_if test Asked = None

-- what is published of the traces that are open, in order
unfoldable pub open_published : {X : Type 0} → List (EntryOf X) → List X
open_published entries = filter_map (published_if (is_open entries)) entries

-- how many traces are open, and how many different subtrees their trees have
abbrev pub left_of : List Entry → Left
left_of entries = record {
  traces = length (open_ids entries);
  nodes = distinct (map (λ p. p.tree) (open_published entries));
}
