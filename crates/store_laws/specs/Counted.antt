-- Reference counts of the store's nodes, given all stakes on them that are held outside of it.
use Rattle.std.specs.Prelude.{◌≡◌, ◌+◌, ◌==◌, ℕ, List, count_by, sum_by, Some}
use Rattle.std.specs.List.{Contains}
use Rattle.node_key.specs.declared.stake.Stake.{Stake}
use Rattle.node_key.specs.Stands.{Stands}
use Rattle.shard_core.specs.Room.{Stored}
use Rattle.store_laws.specs.Store.{IsCanonic, Store, key_in, kids_in, node_in, nodes_in}

-- how many kids of a node have this number
abbrev pub names_kid : ℕ → ℕ × Stored → ℕ
names_kid n node = count_by (λ k. k.node == n) (kids_in node.1.key)

-- how many kids of all nodes have it
abbrev pub kid_places : Store → ℕ → ℕ
kid_places rooms n = sum_by (names_kid n) (nodes_in rooms)

-- how many of the stakes are on it
abbrev pub stakes_on : ℕ → List Stake → ℕ
stakes_on n held = count_by (λ x. x.number == n) held

-- Each stake is on a node that stands for its tree, and each count is the number of stakes and of kids that
-- name the node.
pub record IsCounted (rooms : Store) (held : List Stake) : Type 0 where
  pub stands : (x : Stake) → Contains held x → Stands (key_in rooms) x.number x.tree
  pub counts : (n : ℕ) (s : Stored) → node_in rooms n ≡ Some s
      → s.count ≡ stakes_on n held + kid_places rooms n

-- a store whose nodes are just what the stakes need
pub record IsStore (rooms : Store) (held : List Stake) : Type 0 where
  pub canonic : IsCanonic rooms
  pub counted : IsCounted rooms held
