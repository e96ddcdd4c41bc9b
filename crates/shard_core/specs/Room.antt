-- A room of the store: nodes by their numbers, each with its key and its count, and where numbers go on.
use Rattle.std.specs.Prelude.{◌≡◌, ℕ, ◌+◌, ◌*◌, ◌/◌, ◌%◌, ◌<◌, ◌≤◌, List, Option, Some, refl}
use Rattle.std.specs.Coded.{Coded, code_by, coded×, coded_ℕ}
use Rattle.std.specs.FinMap as map
use Rattle.std.specs.Ordering.{nat_cmp}
use Rattle.node_key.specs.Rooms.{room}
use Rattle.node_key.specs.declared.key.NodeKey.{NodeKey}
use Rattle.node_key.specs.contracts.key.NodeKey as node_key
use Rattle.node_key.specs.declared.limits.TheConstants.{MAX_NUMBERS, STORE_ROOMS}
use Rattle.shard_core.specs.declared.limits.TheConstants.{MAX_COUNT}

-- a node as a room keeps it
pub record Stored : Type 0 where
  pub key : NodeKey
  pub count : ℕ

-- a room: which of the store's rooms it is, the index of the number that it gives next, and its nodes by
-- number
pub record Room : Type 0 where
  pub room : ℕ
  pub next : ℕ
  pub nodes : map.FinMap nat_cmp Stored

-- the number that the room gives next
abbrev pub next_number : Room → ℕ
next_number r = STORE_ROOMS * r.next + r.room

-- the node under a number
abbrev pub node_at : Room → ℕ → Option Stored
node_at r n = map.get r.nodes n

-- under this number the room keeps this key with this count
abbrev pub HasNode : Room → ℕ → NodeKey → ℕ → Type 0
HasNode r n k c = node_at r n ≡ Some (record { key = k; count = c })

-- the room keeps this key
abbrev pub IsThere : Room → NodeKey → Type 0
IsThere r k = (n : ℕ) × (c : ℕ) × HasNode r n k c

-- the room with this key and count under a number, all else as it was
abbrev pub with_node : Room → ℕ → NodeKey → ℕ → Room
with_node r n k c = record {
  room = r.room;
  next = r.next;
  nodes = map.insert r.nodes n (record { key = k; count = c });
}

-- the room with one key more, which has the next number and the count 1
abbrev pub with_new : Room → NodeKey → Room
with_new r k = record {
  room = r.room;
  next = r.next + 1;
  nodes = map.insert r.nodes (next_number r) (record { key = k; count = 1 });
}

-- the room without the node under a number
abbrev pub without : Room → ℕ → Room
without r n = record { room = r.room; next = r.next; nodes = map.remove r.nodes n }

-- a number, a key and a count that the room may keep together
pub record IsPlaced (r : Room) (n : ℕ) (k : NodeKey) (c : ℕ) : Type 0 where
  pub number : n % STORE_ROOMS ≡ r.room
  pub index : n / STORE_ROOMS < r.next
  pub key : room k ≡ r.room
  pub least : 1 ≤ c
  pub most : c ≤ MAX_COUNT

-- what holds of a room at every moment
pub record IsSound (r : Room) : Type 0 where
  pub room : r.room < STORE_ROOMS
  pub next : r.next ≤ MAX_NUMBERS
  pub placed : (n : ℕ) (k : NodeKey) (c : ℕ) → HasNode r n k c → IsPlaced r n k c
  pub keys_differ : (m n : ℕ) (k : NodeKey) (c d : ℕ) → HasNode r m k c → HasNode r n k d → m ≡ n

-- rooms are stored as the tuple of their fields
abbrev pub stored_code : Coded Stored
stored_code =
    code_by (NodeKey × ℕ) (coded× node_key.the_row.coded coded_ℕ) (λ s. (s.key, s.count))
    (λ p. record { key = p.0; count = p.1 }) (λ _. refl)

abbrev pub room_code : Coded Room
room_code =
    code_by (ℕ × (ℕ × map.FinMap nat_cmp Stored))
    (coded× coded_ℕ (coded× coded_ℕ (map.code coded_ℕ stored_code)))
    (λ r. (r.room, (r.next, r.nodes))) (λ p. record { room = p.0; next = p.1.0; nodes = p.1.1 }) (λ _. refl)

-- the room that these nodes are, in whatever order
abbrev pub room_of : ℕ → ℕ → List (ℕ × Stored) → Room
room_of room next es = record { room = room; next = next; nodes = map.from_entries es }
