-- The store: its rooms, and what is in them.
use Rattle.std.specs.Prelude.{◌≡◌, ◌<◌, ◌%◌, ◌+◌, ℕ, max, List, fold, length, map, slice_get}
use Rattle.std.specs.Prelude.{take, Option, Some}
use Rattle.std.specs.List.{Contains, flat_map, range_with_len}
use Rattle.std.specs.FinMap as map
use Rattle.std.specs.Option.{option_and_then, option_map, option_map_or}
use Rattle.node_key.specs.declared.key.Kid.{Kid}
use Rattle.node_key.specs.declared.key.NodeKey.{NodeKey}
use Rattle.node_key.specs.declared.limits.TheConstants.{STORE_ROOMS}
use Rattle.shard_core.specs.Room.{IsSound, Room, Stored, node_at}

abbrev pub Store : Type 0
Store = List Room

-- rooms without nodes, whose numbers begin with one index
abbrev pub empty_room : ℕ → ℕ → Room
empty_room first i = record { room = i; next = first; nodes = map.empty }

abbrev pub empty_store : ℕ → Store
empty_store first = map (empty_room first) (range_with_len 0 STORE_ROOMS)

-- the node of a number
abbrev pub node_in : Store → ℕ → Option Stored
node_in rooms n = option_and_then (λ r. node_at r n) (slice_get rooms (n % STORE_ROOMS))

abbrev pub key_in : Store → ℕ → Option NodeKey
key_in rooms n = option_map (λ s. s.key) (node_in rooms n)

-- all nodes, with their numbers
abbrev pub nodes_in : Store → List (ℕ × Stored)
nodes_in rooms = flat_map (λ r. map.entries r.nodes) rooms

abbrev pub kids_in : NodeKey → List Kid
kids_in key = take key.len key.kids

-- ---- its shape

-- the kid is a node of its span, below this height
pub record IsKidBelow (rooms : Store) (height : ℕ) (k : Kid) : Type 0 where
  pub stored : Stored
  pub there : node_in rooms k.node ≡ Some stored
  pub span : stored.key.dur ≡ k.span
  pub lower : stored.key.height < height

-- a kid's height, 0 where there is no such node
abbrev pub height_in : Store → Kid → ℕ
height_in rooms k = option_map_or (λ s. s.key.height) (node_in rooms k.node) 0

-- the key may stand in the store: it has as many kids as it says, they are nodes there, and it is one higher
-- than the highest of them
pub record IsWellPlaced (rooms : Store) (key : NodeKey) : Type 0 where
  pub len : length (kids_in key) ≡ key.len
  pub kids : (k : Kid) → Contains (kids_in key) k → IsKidBelow rooms key.height k
  pub height : key.height ≡ fold max 0 (map (λ k. height_in rooms k + 1) (kids_in key))

-- Each room is sound and has its own number, and each key is well placed. So keys differ, each is in its
-- room, and no number is one that isn't given yet.
pub record IsCanonic (rooms : Store) : Type 0 where
  pub count : length rooms ≡ STORE_ROOMS
  pub sound : (i : ℕ) (r : Room) → slice_get rooms i ≡ Some r → (r.room ≡ i) × IsSound r
  pub keys : (n : ℕ) (s : Stored) → node_in rooms n ≡ Some s → IsWellPlaced rooms s.key
