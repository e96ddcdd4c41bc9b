-- What a room answers to a key, and what becomes of it.
use Rattle.std.specs.Prelude.{◌≡◌, ◌⊎◌, ◌+◌, ◌-◌, ◌<◌, ℕ, Result, Ok, Err}
use Rattle.node_key.specs.declared.key.NodeKey.{NodeKey}
use Rattle.node_key.specs.declared.limits.TheConstants.{MAX_NUMBERS}
use Rattle.shard_core.specs.declared.limits.TheConstants.{MAX_COUNT}
use Rattle.shard_core.specs.declared.answers.Interned.{Interned}
use Rattle.shard_core.specs.declared.answers.Interned.TheVariants.{Known, New}
use Rattle.shard_core.specs.declared.answers.ShardFault.{ShardFault}
use Rattle.shard_core.specs.declared.answers.ShardFault.TheVariants.{Memory, Spent}
use Rattle.shard_core.specs.declared.answers.Dropped.{Dropped}
use Rattle.shard_core.specs.declared.answers.Dropped.TheVariants.{Kept, Removed}
use Rattle.shard_core.specs.Room.{Room, HasNode, IsThere, next_number, with_node, with_new, without}

-- why a number is used up: the key is new and the room has given all its numbers, or the key's count is the
-- greatest
abbrev pub IsSpent : Room → NodeKey → ℕ → Type 0
IsSpent r k v = ((¬ IsThere r k) × (r.next ≡ MAX_NUMBERS) × (v ≡ MAX_NUMBERS))
    ⊎ ((n : ℕ) × HasNode r n k MAX_COUNT × (v ≡ MAX_COUNT))

-- a key that is there is known, and its count rises by one; a new one gets the next number and the count 1; a
-- refusal changes nothing, and only a new key takes memory
abbrev pub Interns : Room → NodeKey → Result Interned ShardFault → Room → Type 0
Interns old k (Ok (Known n)) new = (c : ℕ) × HasNode old n k c × (c < MAX_COUNT)
    × (new ≡ with_node old n k (c + 1))
Interns old k (Ok (New n)) new =
    (¬ IsThere old k) × (old.next < MAX_NUMBERS) × (n ≡ next_number old) × (new ≡ with_new old k)
Interns old k (Err (Spent v)) new = IsSpent old k v × (new ≡ old)
Interns old k (Err Memory) new = (¬ IsThere old k) × (old.next < MAX_NUMBERS) × (new ≡ old)

-- a node with a count above 1 is kept with one less, and one with the count 1 is removed
abbrev pub Drops : Room → ℕ → Dropped → Room → Type 0
Drops old n Kept new = (k : NodeKey) × (c : ℕ) × HasNode old n k c × (1 < c)
    × (new ≡ with_node old n k (c - 1))
Drops old n (Removed k) new = HasNode old n k 1 × (new ≡ without old n)
