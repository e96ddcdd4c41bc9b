-- What is answered and what changes when an entry is looked up, and when one is filled in.
use Rattle.std.specs.Prelude.{◌≡◌, ◌<◌, ◌≤◌, ◌⊎◌, ℕ, List, Option, Some, None, Result, Ok, Err, IsSome}
use Rattle.trace_base.specs.declared.memory.Memory.{Memory}
use Rattle.whole_profiles.specs.Entry.{entry_rows}
use Rattle.memo_core.specs.Memo.{MemoItem, entry_under, with_recent, most_recent}
use Rattle.whole_profiles.specs.declared.entry.Entry.{Entry}
use Rattle.memo_core.specs.declared.limits.TheConstants.{MEMO_ROWS}
use Rattle.whole_profiles.specs.declared.memo_kind.MemoKind.{MemoKind}

-- an entry that is there is answered and becomes the most recently used one; where there is none nothing
-- changes; memory may be wanted only for one that is there, and then nothing changes
abbrev pub LooksUp : List MemoItem → ℕ → MemoKind → Result (Option Entry) Memory → List MemoItem → Type 0
LooksUp old n kind (Ok (Some e)) new = (entry_under old n kind ≡ Some e) × (new ≡ with_recent old n kind e)
LooksUp old n kind (Ok None) new = (entry_under old n kind ≡ None) × (new ≡ old)
LooksUp old n kind (Err _) new = IsSome (entry_under old n kind) × (new ≡ old)

-- an entry of few enough rows becomes the most recently used one, or nothing changes: this one has too many
-- rows, or its number and kind are new and no memory was found for it
abbrev pub FillsIn : List MemoItem → ℕ → MemoKind → Entry → List MemoItem → Type 0
FillsIn old n kind e new = ((entry_rows e ≤ MEMO_ROWS) × (new ≡ most_recent (with_recent old n kind e)))
    ⊎ (((MEMO_ROWS < entry_rows e) ⊎ (entry_under old n kind ≡ None)) × (new ≡ old))
