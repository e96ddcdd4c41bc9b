-- What holds of a plain hall whatever it did. The trait's laws name these proofs, and a law imports of its
-- own crate only what stands in specs/.
use Rattle.std.specs.Prelude.{◌≡◌, ℕ, ◌++◌, List, Option, None, Some, refl}
use Rattle.std.specs.List.{Contains}
use Rattle.std.specs.Option.{option_map}
use Rattle.std.proofs.Common.{arith, ◌∙◌}
use Rattle.std.proofs.lemmas.List.Elements.{Contains-append_left}
use Rattle.std.proofs.lemmas.Option.{none-some}
use Rattle.hall_trait.specs.Answers.{HasRoom}
use Rattle.hall_history.specs.History.{EntryOf}
use Rattle.hall_history.specs.declared.asks.AskIds.{AskIds}
use Rattle.node_key.specs.declared.stake.Stake.{Stake}
use Rattle.node_key.specs.Leads.{here}
use Rattle.node_key.specs.Stands.{Stands}
use Rattle.node_key.specs.declared.key.NodeKey.{NodeKey}
use Rattle.shard_core.specs.Room.{Stored}
use Rattle.store_laws.specs.Store.{key_in, node_in}
use Rattle.node_store.proofs.TreesUnder.{stands_still}
use Rattle.node_store.specs.Given.{ever, stakes_of}
use Rattle.node_store.specs.Kept.{AreKept, KeepsFor, NodesKept}
use Rattle.registry_core.specs.Registry.{RegistryValue}
use Rattle.plain_hall.specs.Reaching.{ReachesByStake}
use Rattle.plain_hall.specs.Rooted.{with_trees}
use Rattle.plain_hall.specs.Whole.{IsSoundHall}
use Rattle.plain_hall.specs.declared.root.Root.{Root}

-- the places of what is kept fit
pub room_left : {nodes : NodesKept} {r : RegistryValue} {entries : List (EntryOf Root)}
    {queries : List AskIds} → IsSoundHall nodes r entries queries
    → HasRoom (with_trees (ever nodes.given) entries) 0
room_left whole = omega (arith, whole.stands.place, whole.stands.promised, whole.stands.sound.room)

-- a node in the store has the key that its number was given to
key_given : (nodes : NodesKept) (n : ℕ) (key : NodeKey) → AreKept nodes → (o : Option Stored)
    → node_in nodes.rooms n ≡ o → option_map (λ (s : Stored). s.key) o ≡ Some key
    → ever nodes.given n ≡ Some key
key_given nodes n key kept None there at = absurd (none-some key at)
key_given nodes n key kept (Some s) there at = kept.keys n s there ∙ at

-- each stake that the store is kept for is on the node of its tree
pub held_stands : (nodes : NodesKept) (others : List Stake) (x : Stake) → AreKept nodes
    → KeepsFor nodes others → Contains (stakes_of nodes.given ++ others) x
    → Stands (ever nodes.given) x.number x.tree
held_stands nodes others x kept keeps there =
    stands_still (key_in nodes.rooms) (ever nodes.given)
    (λ n key at. key_given nodes n key kept (node_in nodes.rooms n) refl at) x.number x.tree
    (keeps.counted.stands x there)

-- what the owner's stakes are on stands for their trees
pub stakes_stand : {nodes : NodesKept} {r : RegistryValue} {entries : List (EntryOf Root)}
    {queries : List AskIds} → IsSoundHall nodes r entries queries → (x : Stake)
    → Contains (stakes_of nodes.given) x → Stands (ever nodes.given) x.number x.tree
stakes_stand {nodes} whole x there =
    held_stands nodes _ x whole.store whole.roots (Contains-append_left (stakes_of nodes.given) _ x there)

-- the owner reaches what its stakes are on
pub staked_reached : {nodes : NodesKept} {r : RegistryValue} {entries : List (EntryOf Root)}
    {queries : List AskIds} → IsSoundHall nodes r entries queries → (x : Stake)
    → Contains (stakes_of nodes.given) x → ReachesByStake nodes x x.number x.tree
staked_reached whole x there = record {
  has = there;
  leads = record { led = here; stands = stakes_stand whole x there };
}
