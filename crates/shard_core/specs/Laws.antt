-- What follows from the answers of a room, whatever its nodes.
use Rattle.std.specs.Prelude.{◌≡◌, ◌/◌, ◌+◌, ◌<◌, ◌≤◌, ℕ, Result, Ok, Err, None}
use Rattle.node_key.specs.declared.key.NodeKey.{NodeKey}
use Rattle.node_key.specs.declared.limits.TheConstants.{STORE_ROOMS}
use Rattle.shard_core.specs.declared.answers.Interned.{Interned}
use Rattle.shard_core.specs.declared.answers.Interned.TheVariants.{New}
use Rattle.shard_core.specs.declared.answers.ShardFault.{ShardFault}
use Rattle.shard_core.specs.declared.answers.ShardFault.TheVariants.{Spent}
use Rattle.shard_core.specs.declared.answers.Dropped.{Dropped}
use Rattle.shard_core.specs.Room.{Room, IsSound, node_at}
use Rattle.shard_core.specs.Interning.{IsSpent, Interns, Drops}

-- no answer to a key lowers the index of the next number
abbrev pub InternsNeverLowerNext : Type 0
InternsNeverLowerNext = (old new : Room) (k : NodeKey) (answer : Result Interned ShardFault)
    → Interns old k answer new → old.next ≤ new.next

-- to drop a count leaves it as it was, so that the number of a removed node isn't given again
abbrev pub DropsKeepNext : Type 0
DropsKeepNext = (old new : Room) (n : ℕ) (answer : Dropped) → Drops old n answer new → new.next ≡ old.next

-- the index of a new number is the next one, which is counted on, and no node had the number
abbrev pub NewNumbersAreFresh : Type 0
NewNumbersAreFresh = (old new : Room) (k : NodeKey) (n : ℕ) → IsSound old → Interns old k (Ok (New n)) new
    → (n / STORE_ROOMS ≡ old.next) × (new.next ≡ old.next + 1) × (node_at old n ≡ None)

-- a number is used up for a key exactly by the two causes
abbrev pub SpentByItsCauses : Type 0
SpentByItsCauses = (old : Room) (k : NodeKey) (v : ℕ) (answer : Result Interned ShardFault) (new : Room)
    → IsSound old → IsSpent old k v → Interns old k answer new → answer ≡ Err (Spent v)

-- a number that is given later is greater, since the next index didn't fall meanwhile; so no number is given
-- twice
abbrev pub NewNumbersRise : Type 0
NewNumbersRise = (one after later end : Room) (j k : NodeKey) (m n : ℕ) → IsSound one
    → Interns one j (Ok (New m)) after → after.next ≤ later.next → Interns later k (Ok (New n)) end → m < n
