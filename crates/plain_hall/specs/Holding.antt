-- What is left of the loads in a history while pins hold some of its traces.
use Rattle.std.specs.Prelude.{ℕ, ◌==◌, ◌||◌, Bool, List, length, map}
use Rattle.std.specs.List.{filter_map, list_any}
use Rattle.hall_history.specs.History.{Entry, EntryOf, is_open, open_ids}
use Rattle.hall_history.specs.Left.{published_if}
use Rattle.hall_history.specs.declared.left.Left.{Left}
use Rattle.hall_history.specs.declared.seat.PinView.{PinView}
use Rattle.hall_history.specs.Asks.{first_id, second_id}
use Rattle.node_key.specs.Keys.{distinct}

-- whether the trace is one of the pin's
abbrev pub is_of_pin : ℕ → PinView → Bool
is_of_pin id pin = first_id pin.ids == id || second_id pin.ids == id

-- whether the trace is open, or a pin holds it
abbrev pub is_kept_for : {X : Type 0} → List PinView → List (EntryOf X) → ℕ → Bool
is_kept_for pins entries id = is_open entries id || list_any (is_of_pin id) pins

-- what is published of the traces that are open or that a pin holds, in order
abbrev pub published_kept : {X : Type 0} → List PinView → List (EntryOf X) → List X
published_kept pins entries = filter_map (published_if (is_kept_for pins entries)) entries

-- how many traces are open, and how many different subtrees the trees have of the traces that are open or
-- that a pin holds
abbrev pub left_with : List PinView → List Entry → Left
left_with pins entries = record {
  traces = length (open_ids entries);
  nodes = distinct (map (λ p. p.tree) (published_kept pins entries));
}
