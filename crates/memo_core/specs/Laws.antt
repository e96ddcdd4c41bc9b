-- What follows for a room, whatever its entries.
use Rattle.std.specs.Prelude.{◌≡◌, ◌<◌, ◌⊎◌, ℕ, false, List, [], ◌∷◌, ◌++◌, drop, length}
use Rattle.std.specs.Prelude.{Some, None, Ok, IsSome}
use Rattle.memo_core.specs.Memo.{MemoItem, IsMemo, is_item_of, entry_under, with_recent, most_recent}
use Rattle.memo_core.specs.Runs.{MemoUse, MemoRun, last_filled}
use Rattle.memo_core.specs.Using.{LooksUp}
use Rattle.whole_profiles.specs.declared.entry.Entry.{Entry}
use Rattle.memo_core.specs.declared.limits.TheConstants.{MEMO_ENTRIES}
use Rattle.whole_profiles.specs.declared.memo_kind.MemoKind.{MemoKind}

-- an entry that was filled in is found
abbrev pub FilledIsFound : Type 0
FilledIsFound = (items : List MemoItem) (n : ℕ) (kind : MemoKind) (e : Entry) → IsMemo items
    → entry_under (most_recent (with_recent items n kind e)) n kind ≡ Some e

-- of another number, or of the other kind, the entry stays as it was or is gone
abbrev pub OthersStayOrGo : Type 0
OthersStayOrGo = (items : List MemoItem) (n : ℕ) (kind : MemoKind) (e : Entry) (m : ℕ) (other : MemoKind)
    → IsMemo items → is_item_of m other (record { number = n; kind = kind; entry = e }) ≡ false
    → (entry_under (most_recent (with_recent items n kind e)) m other ≡ None)
    ⊎ (entry_under (most_recent (with_recent items n kind e)) m other ≡ entry_under items m other)

-- where the number and kind were there nothing else goes
abbrev pub KnownLosesNone : Type 0
KnownLosesNone = (items : List MemoItem) (n : ℕ) (kind : MemoKind) (e : Entry) (m : ℕ) (other : MemoKind)
    → IsMemo items → is_item_of m other (record { number = n; kind = kind; entry = e }) ≡ false
    → IsSome (entry_under items n kind)
    → entry_under (most_recent (with_recent items n kind e)) m other ≡ entry_under items m other

-- where they are new nothing goes while there is room, and in a full room the least recently used one
abbrev pub NewTakesRoom : Type 0
NewTakesRoom = (items : List MemoItem) (n : ℕ) (kind : MemoKind) (e : Entry)
    → entry_under items n kind ≡ None → length items < MEMO_ENTRIES
    → most_recent (with_recent items n kind e)
    ≡ items ++ record { number = n; kind = kind; entry = e } ∷ []

abbrev pub LeastRecentGoes : Type 0
LeastRecentGoes = (items : List MemoItem) (n : ℕ) (kind : MemoKind) (e : Entry)
    → entry_under items n kind ≡ None → length items ≡ MEMO_ENTRIES
    → most_recent (with_recent items n kind e)
    ≡ drop 1 items ++ record { number = n; kind = kind; entry = e } ∷ []

-- what a room that began empty has for a number and a kind is what was filled in for them last, or nothing
abbrev pub FilledOrNothing : Type 0
FilledOrNothing = (uses : List MemoUse) (items : List MemoItem) (n : ℕ) (kind : MemoKind)
    → MemoRun [] uses items
    → (entry_under items n kind ≡ None) ⊎ (entry_under items n kind ≡ last_filled uses n kind)

-- so that is what a look answers
abbrev pub AnswersWhatWasFilled : Type 0
AnswersWhatWasFilled = (uses : List MemoUse) (items new : List MemoItem) (n : ℕ) (kind : MemoKind) (e : Entry)
    → MemoRun [] uses items → LooksUp items n kind (Ok (Some e)) new → last_filled uses n kind ≡ Some e
