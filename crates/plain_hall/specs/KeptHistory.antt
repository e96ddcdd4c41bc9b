-- The history that a plain hall keeps.
use Rattle.std.specs.Prelude.{ℕ, ◌+◌, ◌≤◌, List}
use Rattle.std.specs.Vec.{vec_len, vec_capacity}
use Rattle.hall_history.specs.History.{EntryOf}
use Rattle.registry_core.specs.Registry.{RegistryValue, open_count}
use Rattle.plain_hall.specs.Kept.{entries_of}
use Rattle.plain_hall.specs.declared.kept_history.KeptHistory.{KeptHistory}
use Rattle.plain_hall.specs.declared.root.Root.{Root}

-- the entries
abbrev pub history : KeptHistory → List (EntryOf Root)
history h = entries_of h.entries.items h.asked

-- so many more entries that aren't questions can be kept with no more memory
abbrev pub HasSpace : KeptHistory → ℕ → Type 0
HasSpace h n = vec_len h.entries + n ≤ vec_capacity h.entries

-- the entries that may still come and aren't questions: those that are promised, and an end for each open trace
abbrev pub entries_owed : RegistryValue → ℕ
entries_owed r = r.promised + open_count r.traces
