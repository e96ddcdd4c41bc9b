-- Looks and fills of a room, one after the other.
use Rattle.std.specs.Prelude.{◌≡◌, ◌&&◌, if◌then◌else◌, nat_le, ℕ, List, [], ◌∷◌, Option, Some, None, Result}
use Rattle.std.specs.Option.{option_or}
use Rattle.trace_base.specs.declared.memory.Memory.{Memory}
use Rattle.whole_profiles.specs.Entry.{entry_kind, entry_rows}
use Rattle.memo_core.specs.Memo.{MemoItem, is_item_of}
use Rattle.memo_core.specs.Using.{LooksUp, FillsIn}
use Rattle.whole_profiles.specs.declared.entry.Entry.{Entry}
use Rattle.memo_core.specs.declared.limits.TheConstants.{MEMO_ROWS}
use Rattle.whole_profiles.specs.declared.memo_kind.MemoKind.{MemoKind}

-- a look with its answer, or a fill
pub data MemoUse : Type 0 where
  Looked : (n : ℕ) (kind : MemoKind) (answer : Result (Option Entry) Memory) → MemoUse
  Filled : (n : ℕ) (kind : MemoKind) (e : Entry) → MemoUse

-- what it makes of a room
abbrev pub MemoStep : List MemoItem → MemoUse → List MemoItem → Type 0
MemoStep old (Looked n kind answer) new = LooksUp old n kind answer new
MemoStep old (Filled n kind e) new = (entry_kind e ≡ kind) × FillsIn old n kind e new

-- what several make of it, in order
abbrev pub MemoRun : List MemoItem → List MemoUse → List MemoItem → Type 0
MemoRun old [] new = new ≡ old
MemoRun old (u ∷ uses) new = (between : List MemoItem) × MemoStep old u between × MemoRun between uses new

-- the entry that this fills in for a number and a kind, if it has few enough rows
abbrev pub entry_filled : MemoUse → ℕ → MemoKind → Option Entry
entry_filled (Looked m other answer) n kind = None
entry_filled (Filled m other e) n kind =
    if is_item_of n kind (record { number = m; kind = other; entry = e }) && nat_le (entry_rows e) MEMO_ROWS
    then Some e else None

-- the last one
abbrev pub last_filled : List MemoUse → ℕ → MemoKind → Option Entry
last_filled [] n kind = None
last_filled (u ∷ uses) n kind = option_or (last_filled uses n kind) (entry_filled u n kind)
