-- A memo of several rooms: what is kept under a number and a kind is what the number's room keeps.
use Rattle.std.specs.Prelude.{◌≡◌, ◌<◌, ◌≤◌, ◌%◌, ◌⊎◌, ℕ, List, [], All, get_or, length, replicate, slice_set}
use Rattle.std.specs.Prelude.{Option, Some, None, Result, Ok, Err, IsSome}
use Rattle.trace_base.specs.declared.memory.Memory.{Memory}
use Rattle.memo_core.specs.Memo.{MemoItem, IsMemo, entry_under}
use Rattle.memo_core.specs.declared.limits.TheConstants.{MEMO_ROOMS, MEMO_ROWS}
use Rattle.whole_profiles.specs.Entry.{entry_rows}
use Rattle.whole_profiles.specs.declared.entry.Entry.{Entry}
use Rattle.whole_profiles.specs.declared.memo_kind.MemoKind.{MemoKind}

-- what is kept under each number and kind
abbrev pub Kept : Type 0
Kept = ℕ → MemoKind → Option Entry

-- the room of a number
abbrev pub room_of : List (List MemoItem) → ℕ → List MemoItem
room_of rooms n = get_or rooms (n % MEMO_ROOMS) []

unfoldable pub kept_under : List (List MemoItem) → Kept
kept_under rooms n kind = entry_under (room_of rooms n) n kind

-- rooms that keep nothing
abbrev pub no_entries : List (List MemoItem)
no_entries = replicate MEMO_ROOMS []

-- what holds of the rooms at every moment
pub record AreRooms (rooms : List (List MemoItem)) : Type 0 where
  pub all : length rooms ≡ MEMO_ROOMS
  pub each : All IsMemo rooms

-- something becomes of a number's room, and the other rooms stay
abbrev pub InItsRoom : (List MemoItem → List MemoItem → Type 0) → ℕ → List (List MemoItem)
    → List (List MemoItem) → Type 0
InItsRoom Becomes n old new = Becomes (room_of old n) (room_of new n)
    × (new ≡ slice_set old (n % MEMO_ROOMS) (room_of new n))

-- what is kept is told; memory may be wanted only for an entry that is there
abbrev pub LookTells : Option Entry → Result (Option Entry) Memory → Type 0
LookTells kept (Ok told) = told ≡ kept
LookTells kept (Err _) = IsSome kept

-- The entry is kept from then on, and each other one is kept as it was, or had to go.
pub record KeepsEntry (old : Kept) (n : ℕ) (kind : MemoKind) (e : Entry) (new : Kept) : Type 0 where
  pub few_rows : entry_rows e ≤ MEMO_ROWS
  pub there : new n kind ≡ Some e
  pub others : (m : ℕ) (other : MemoKind) → (m ≡ n → other ≡ kind → ⊥)
      → (new m other ≡ old m other) ⊎ (new m other ≡ None)

-- After a fill the entry is kept, or nothing changed: it has too many rows, or nothing was kept under its
-- number and kind and no memory was found.
abbrev pub IsKeptAfter : Kept → ℕ → MemoKind → Entry → Kept → Type 0
IsKeptAfter old n kind e new = KeepsEntry old n kind e new
    ⊎ (((MEMO_ROWS < entry_rows e) ⊎ (old n kind ≡ None)) × (new ≡ old))
