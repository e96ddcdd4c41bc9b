-- The store of an owner: its rooms, and the numbers that it ever gave.
use Rattle.std.specs.Prelude.{◌≡◌, ◌+◌, ◌≤◌, ◌++◌, ℕ, List, length, slice_get, Some, refl}
use Rattle.std.specs.List.{AllZip}
use Rattle.std.specs.Coded.{Coded, code_by, coded×, coded_list}
use Rattle.node_key.specs.declared.stake.Stake.{Stake}
use Rattle.node_key.specs.Stands.{Stands}
use Rattle.node_key.specs.declared.key.NodeKey.{NodeKey}
use Rattle.node_key.specs.declared.limits.TheConstants.{STORE_ROOMS}
use Rattle.shard_core.specs.Room.{IsSound, Room, Stored, room_code}
use Rattle.store_laws.specs.Counted.{IsStore}
use Rattle.store_laws.specs.Store.{Store, node_in}
use Rattle.node_store.specs.Given.{Given, ever, given_code, stakes_of}
use Rattle.node_store.specs.TreeUnder.{tree_under}
use Rattle.node_store.specs.declared.numbered.Numbered.{Numbered}

pub record NodesKept : Type 0 where
  pub rooms : Store
  pub given : Given

-- a room is sound, and its next index is behind those that it gave
pub record IsRoomOf (first i : ℕ) (r : Room) (es : List Numbered) : Type 0 where
  pub room : r.room ≡ i
  pub sound : IsSound r
  pub next : r.next ≡ first + length es

-- What holds of the store at every moment, whoever holds stakes: each node has the key that its number was
-- given to, and each number that was ever given stands for a tree among the keys ever given.
pub record AreKept (s : NodesKept) : Type 0 where
  pub count : length s.rooms ≡ STORE_ROOMS
  pub lists : length s.given.rooms ≡ STORE_ROOMS
  pub room : (i : ℕ) (r : Room) (es : List Numbered) → slice_get s.rooms i ≡ Some r
      → slice_get s.given.rooms i ≡ Some es → IsRoomOf s.given.first i r es
  pub keys : (n : ℕ) (node : Stored) → node_in s.rooms n ≡ Some node → ever s.given n ≡ Some node.key
  pub stand : (n : ℕ) (key : NodeKey) → ever s.given n ≡ Some key
      → Stands (ever s.given) n (tree_under (ever s.given) n)

-- the nodes are just what the stakes of the owner need, and these others, which it counts elsewhere
abbrev pub KeepsFor : NodesKept → List Stake → Type 0
KeepsFor s others = IsStore s.rooms (stakes_of s.given ++ others)

-- numbers keep the keys that they were given to
abbrev pub KeepsNumbers : NodesKept → NodesKept → Type 0
KeepsNumbers old new = (n : ℕ) (key : NodeKey) → ever old.given n ≡ Some key → ever new.given n ≡ Some key

-- no room's next index falls
abbrev pub NextNeverFalls : NodesKept → NodesKept → Type 0
NextNeverFalls old new = AllZip (λ was now. was.next ≤ now.next) old.rooms new.rooms

-- stored as the tuple of its fields
abbrev pub kept_code : Coded NodesKept
kept_code = code_by (Store × Given) (coded× (coded_list room_code) given_code) (λ s. (s.rooms, s.given))
    (λ p. record { rooms = p.0; given = p.1 }) (λ _. refl)
