-- The passes over the loading traces of a history, one each.
use Rattle.std.specs.Prelude.{ℕ, List, map, filter}
use Rattle.hall_history.specs.History.{EntryOf, opened_ids, is_loading, tracks_of, published_count}
use Rattle.hall_history.specs.Passes.{state_at}
use Rattle.hall_history.specs.declared.seat.PassView.{PassView}

-- the ids of the loading traces, in order
abbrev pub loading_ids : {X : Type 0} → List (EntryOf X) → List ℕ
loading_ids entries = filter (is_loading entries) (opened_ids entries)

-- the pass over all tracks of the trace, of which the first are published
abbrev pub pass_of : {X : Type 0} → List (EntryOf X) → ℕ → PassView
pass_of entries id = record {
  id = id;
  from = 0;
  to = tracks_of entries id;
  state = state_at (published_count entries id) (tracks_of entries id);
}

-- the passes over the loading traces
abbrev pub passes_of : {X : Type 0} → List (EntryOf X) → List PassView
passes_of entries = map (pass_of entries) (loading_ids entries)
