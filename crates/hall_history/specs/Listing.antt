-- What a listing tells of the open traces, as of some entries.
use Rattle.std.specs.Prelude.{ℕ, List, map}
use Rattle.hall_history.specs.History.{EntryOf, is_loading, open_ids, published_count, tracks_of}
use Rattle.hall_history.specs.declared.listing.ListRow.{ListRow}

-- the row of a trace
abbrev pub row_told : {X : Type 0} → List (EntryOf X) → ℕ → ListRow
row_told entries id = record {
  id = id;
  tracks = tracks_of entries id;
  published = published_count entries id;
  loading = is_loading entries id;
}

-- the rows of all open traces, rising by id
abbrev pub listed_rows : {X : Type 0} → List (EntryOf X) → List ListRow
listed_rows entries = map (row_told entries) (open_ids entries)
