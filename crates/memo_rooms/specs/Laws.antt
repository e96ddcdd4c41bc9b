-- What keeps a memo whole, where some numbers have a tree.
use Rattle.std.specs.Prelude.{◌≡◌, ℕ, Option, Some, None, IsSome}
use Rattle.node_key.specs.Tree.{Tree}
use Rattle.memo_rooms.specs.Rooms.{Kept, IsKeptAfter}
use Rattle.memo_rooms.specs.Whole.{AreWhole}
use Rattle.whole_profiles.specs.Whole.{whole_profile}
use Rattle.whole_profiles.specs.declared.memo_kind.MemoKind.{MemoKind}

-- a memo of whole profiles of the trees that numbers have
abbrev pub AreWholeBy : (ℕ → Option Tree) → Kept → Type 0
AreWholeBy tree_at kept = AreWhole (λ n t. tree_at n ≡ Some t) kept

abbrev pub EmptyIsWhole : Type 0
EmptyIsWhole = (tree_at : ℕ → Option Tree) (kept : Kept) → ((n : ℕ) (kind : MemoKind) → kept n kind ≡ None)
    → AreWholeBy tree_at kept

-- nothing changes for a look
abbrev pub LooksLeaveWhole : Type 0
LooksLeaveWhole = (tree_at : ℕ → Option Tree) (old new : Kept)
    → new ≡ old → AreWholeBy tree_at old → AreWholeBy tree_at new

-- the whole profile of the tree of its number is filled in
abbrev pub FillsLeaveWhole : Type 0
FillsLeaveWhole = (tree_at : ℕ → Option Tree) (old new : Kept) (n : ℕ) (kind : MemoKind) (t : Tree)
    → tree_at n ≡ Some t → IsKeptAfter old n kind (whole_profile kind t) new
    → AreWholeBy tree_at old → AreWholeBy tree_at new

-- numbers get trees, and others lose theirs, but none under which something is kept gets one
abbrev pub NewTreesLeaveWhole : Type 0
NewTreesLeaveWhole = (tree_at now_at : ℕ → Option Tree) (kept : Kept)
    → ((n : ℕ) (kind : MemoKind) (t : Tree) → IsSome (kept n kind) → now_at n ≡ Some t → tree_at n ≡ Some t)
    → AreWholeBy tree_at kept → AreWholeBy now_at kept
