-- One step of a store.
use Rattle.std.specs.Prelude.{◌≡◌, ◌%◌, ℕ, Ok, Some, slice_get, slice_set}
use Rattle.node_key.specs.Rooms.{room}
use Rattle.node_key.specs.declared.key.NodeKey.{NodeKey}
use Rattle.node_key.specs.declared.limits.TheConstants.{STORE_ROOMS}
use Rattle.shard_core.specs.Interning.{Drops, Interns}
use Rattle.shard_core.specs.Room.{Room}
use Rattle.shard_core.specs.declared.answers.Dropped.{Dropped}
use Rattle.shard_core.specs.declared.answers.Interned.{Interned}
use Rattle.store_laws.specs.Store.{Store}

-- a key is interned in its room, or a number's room lowers its count
pub data IsStoreStep (rooms : Store) : Store → Type 0 where
  interned : (key : NodeKey) (answer : Interned) (old r : Room) → slice_get rooms (room key) ≡ Some old
      → Interns old key (Ok answer) r → IsStoreStep rooms (slice_set rooms (room key) r)
  dropped : (n : ℕ) (answer : Dropped) (old r : Room) → slice_get rooms (n % STORE_ROOMS) ≡ Some old
      → Drops old n answer r → IsStoreStep rooms (slice_set rooms (n % STORE_ROOMS) r)
