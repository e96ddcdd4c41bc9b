-- Which nodes of the store are reached from stakes.
use Rattle.std.specs.Prelude.{◌≡◌, ℕ, List, Some}
use Rattle.std.specs.List.{Contains}
use Rattle.node_key.specs.declared.stake.Stake.{Stake}
use Rattle.node_key.specs.declared.key.Kid.{Kid}
use Rattle.shard_core.specs.Room.{Stored}
use Rattle.store_laws.specs.Store.{Store, kids_in, node_in}

-- the number is that of a stake, or of a kid of a node that is reached
pub data IsReached (rooms : Store) (held : List Stake) : ℕ → Type 0 where
  staked : (x : Stake) → Contains held x → IsReached rooms held x.number
  below : (n : ℕ) (s : Stored) (k : Kid) → IsReached rooms held n → node_in rooms n ≡ Some s
      → Contains (kids_in s.key) k → IsReached rooms held k.node
