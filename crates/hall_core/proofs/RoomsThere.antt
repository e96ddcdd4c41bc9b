-- Which rooms a store has.
use Rattle.std.proofs.Common.{◌≡◌, ℕ, ◌<◌, ◌%◌, get_or, Some, slice_get, arith}
use Rattle.std.proofs.lemmas.Option.{slice_get-get_or}
use Rattle.node_key.specs.Rooms.{room}
use Rattle.node_key.specs.declared.key.NodeKey.{NodeKey}
use Rattle.node_key.specs.declared.limits.TheConstants.{STORE_ROOMS}
use Rattle.shard_core.specs.Room.{Room}
use Rattle.store_laws.specs.Store.{IsCanonic, Store, empty_room}

-- each index below their number has a room
pub room-there : (rooms : Store) (i : ℕ) → IsCanonic rooms → i < STORE_ROOMS
    → (r : Room) × (slice_get rooms i ≡ Some r)
room-there rooms i canonic below = (
  get_or rooms i (empty_room 0 i),
  slice_get-get_or rooms i (empty_room 0 i) (omega (arith, below, canonic.count)),
)

-- each key has one
pub room-of-key : (rooms : Store) (key : NodeKey) → IsCanonic rooms
    → (r : Room) × (slice_get rooms (room key) ≡ Some r)
unfolding room
room-of-key rooms key canonic = room-there rooms (room key) canonic (omega arith)

-- and so has each number
pub room-of-number : (rooms : Store) (n : ℕ) → IsCanonic rooms
    → (r : Room) × (slice_get rooms (n % STORE_ROOMS) ≡ Some r)
room-of-number rooms n canonic = room-there rooms (n % STORE_ROOMS) canonic (omega arith)
