-- How a plain hall keeps its history: a run of questions is kept as its length.
use Rattle.std.specs.Prelude.{ℕ, List, [], ◌∷◌, ◌++◌, replicate}
use Rattle.std.specs.List.{flat_map}
use Rattle.std.specs.Arc.{arc_value}
use Rattle.hall_history.specs.History.{EntryOf, Opened, Published, Sealed, Dropped, Closed, Asked}
use Rattle.plain_hall.specs.declared.kept_entry.HistoryEntry.{HistoryEntry}
use Rattle.plain_hall.specs.declared.kept_entry.HistoryEntry.TheVariants as kept
use Rattle.plain_hall.specs.declared.kept_entry.KeptEntry.{KeptEntry}
use Rattle.plain_hall.specs.declared.root.Root.{Root}

-- the entry that is kept
abbrev pub entry_of : HistoryEntry → EntryOf Root
entry_of (kept.Opened id info) = Opened id (arc_value info)
entry_of (kept.Published id track root) = Published id track root
entry_of (kept.Sealed id) = Sealed id
entry_of (kept.Dropped id) = Dropped id
entry_of (kept.Closed id) = Closed id

-- the questions before it, and the entry
abbrev pub block_of : KeptEntry → List (EntryOf Root)
block_of kept = replicate kept.asked Asked ++ entry_of kept.entry ∷ []

-- the history that is kept, with so many questions at its end
abbrev pub entries_of : List KeptEntry → ℕ → List (EntryOf Root)
entries_of kept asked = flat_map block_of kept ++ replicate asked Asked
