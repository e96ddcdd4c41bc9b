-- A memo that keeps whole profiles: under each number that has a tree, the profile of this tree.
use Rattle.std.specs.Prelude.{◌≡◌, ℕ, Some}
use Rattle.node_key.specs.Tree.{Tree}
use Rattle.memo_rooms.specs.Rooms.{Kept}
use Rattle.whole_profiles.specs.Whole.{whole_profile}
use Rattle.whole_profiles.specs.declared.entry.Entry.{Entry}
use Rattle.whole_profiles.specs.declared.memo_kind.MemoKind.{MemoKind}

abbrev pub AreWhole : (ℕ → Tree → Type 0) → Kept → Type 0
AreWhole has kept = (n : ℕ) (kind : MemoKind) (e : Entry) (t : Tree)
    → kept n kind ≡ Some e → has n t → e ≡ whole_profile kind t

-- each entry is the whole profile of a tree of its number
abbrev pub AreOfTrees : (ℕ → Tree → Type 0) → Kept → Type 0
AreOfTrees has kept = (n : ℕ) (kind : MemoKind) (e : Entry)
    → kept n kind ≡ Some e → (t : Tree) × has n t × (e ≡ whole_profile kind t)

-- no number has two trees
abbrev pub HaveOneTree : (ℕ → Tree → Type 0) → Type 0
HaveOneTree has = (n : ℕ) (t u : Tree) → has n t → has n u → t ≡ u
