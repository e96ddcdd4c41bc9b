-- What it is to find a key, or to add it under a number.
use Rattle.std.specs.Prelude.{◌≡◌, ℕ, List, [], ◌∷◌, ◌++◌, slice_get, Some}
use Rattle.node_key.specs.declared.key.NodeKey.{NodeKey}
use Rattle.shard_core.specs.declared.nodes.FoundOrAdded.{FoundOrAdded}
use Rattle.shard_core.specs.declared.nodes.FoundOrAdded.TheVariants.{There, Added, NoMemory}
use Rattle.shard_core.specs.Room.{Stored}
use Rattle.shard_core.specs.Listed.{LacksKey}

-- a key that is there is found at its place, and a new one goes last, with the count 1; only that takes
-- memory
abbrev pub FindsOrAdds : List (ℕ × Stored) → NodeKey → ℕ → FoundOrAdded → List (ℕ × Stored) → Type 0
FindsOrAdds old k n (There i) new = (new ≡ old) × (m : ℕ) × (c : ℕ)
    × (slice_get old i ≡ Some (m, record { key = k; count = c }))
FindsOrAdds old k n Added new = LacksKey old k × (new ≡ old ++ (n, record { key = k; count = 1 }) ∷ [])
FindsOrAdds old k n NoMemory new = LacksKey old k × (new ≡ old)
