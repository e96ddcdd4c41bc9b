-- What is held stands for its tree among the keys ever given, so that it is read there.
use Rattle.std.proofs.Common.{◌≡◌, ℕ, ◌++◌, List, Contains, Some, sym, ap, ◌∙◌, option_map}
use Rattle.node_key.specs.declared.stake.Stake.{Stake}
use Rattle.node_key.specs.Stands.{Stands}
use Rattle.node_key.specs.declared.key.NodeKey.{NodeKey}
use Rattle.shard_core.specs.Room.{Stored}
use Rattle.store_laws.specs.Store.{key_in}
use Rattle.node_store.specs.Given.{ever, stakes_of}
use Rattle.node_store.specs.Kept.{AreKept, KeepsFor, NodesKept}
use Rattle.node_store.proofs.Dropping.{stored_of_key}
use Rattle.node_store.proofs.TreesUnder.{stands_still}

-- a node has the key that its number was given to
pub found_ever : (s : NodesKept) → AreKept s → (n : ℕ) (key : NodeKey) → key_in s.rooms n ≡ Some key
    → ever s.given n ≡ Some key
found_ever s is_kept n key is =
    let found = stored_of_key s.rooms n key is in
    is_kept.keys n found.0 found.1 ∙ sym (ap (option_map (λ (x : Stored). x.key)) found.1) ∙ is

-- a stake of the owner, or one of the others
pub held_stands : (s : NodesKept) (others : List Stake) (x : Stake) → AreKept s → KeepsFor s others
    → Contains (stakes_of s.given ++ others) x → Stands (ever s.given) x.number x.tree
held_stands s others x is_kept keeps among =
    stands_still (key_in s.rooms) (ever s.given) (found_ever s is_kept) x.number x.tree
    (keeps.counted.stands x among)
