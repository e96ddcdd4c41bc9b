-- Which numbers of a store are used up.
use Rattle.std.specs.Prelude.{◌≡◌, ◌≤◌, ◌⊎◌, ℕ, List, slice_get, Option, None, Some, Result, Ok, Err}
use Rattle.node_key.specs.declared.limits.TheConstants.{MAX_NUMBERS}
use Rattle.shard_core.specs.declared.limits.TheConstants.{MAX_COUNT}
use Rattle.shard_core.specs.Room.{Room}
use Rattle.hall_trait.specs.declared.answers.HallFault.{HallFault}
use Rattle.hall_trait.specs.declared.answers.HallFault.TheVariants as fault

-- some room has given all its numbers
abbrev pub HasFullRoom : List Room → Type 0
HasFullRoom rooms = (i : ℕ) × (r : Room) × (slice_get rooms i ≡ Some r) × (MAX_NUMBERS ≤ r.next)

-- Why a number of the store is used up: a room has given all its numbers, which one of them shows where they
-- are told, or there are the most references to a node.
abbrev pub IsStoreSpent : Option (List Room) → ℕ → Type 0
IsStoreSpent None p = (p ≡ MAX_NUMBERS) ⊎ (p ≡ MAX_COUNT)
IsStoreSpent (Some rooms) p = ((p ≡ MAX_NUMBERS) × HasFullRoom rooms) ⊎ (p ≡ MAX_COUNT)

-- what a builder that was refused tells of the store
abbrev pub BuildSpends : {X : Type 0} → Option (List Room) → Result X HallFault → Type 0
BuildSpends rooms (Ok x) = Unit {0}
BuildSpends rooms (Err (fault.Spent v)) = IsStoreSpent rooms v
BuildSpends rooms (Err fault.Memory) = Unit {0}
BuildSpends rooms (Err (fault.Full place)) = Unit {0}
