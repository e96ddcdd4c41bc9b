-- The nodes of a room in the order of its tables.
use Rattle.std.specs.Prelude.{◌≡◌, ℕ, false, List, [], ◌∷◌}
use Rattle.std.specs.List.{list_any}
use Rattle.node_key.specs.declared.key.NodeKey.{NodeKey}
use Rattle.shard_core.specs.declared.hashed_key.HashedKey.{HashedKey}
use Rattle.shard_core.specs.Room.{Stored}
use Rattle.shard_core.specs.SameKey.{same_key}

-- a key beside its number and count
abbrev pub entry : HashedKey → ℕ × ℕ → ℕ × Stored
entry k e = (e.0, record { key = k.key; count = e.1 })

-- keys beside their numbers and counts
abbrev pub listed : List HashedKey → List (ℕ × ℕ) → List (ℕ × Stored)
listed [] es = []
listed (k ∷ ks) [] = []
listed (k ∷ ks) (e ∷ es) = entry k e ∷ listed ks es

-- none of them has this key
abbrev pub LacksKey : List (ℕ × Stored) → NodeKey → Type 0
LacksKey es k = list_any (λ e. same_key k e.1.key) es ≡ false
