-- There are as many nodes as different subtrees.
use Rattle.std.proofs.Common.{◌≡◌, ℕ, List, length, map, Some, sym, ap}
use Rattle.std.proofs.Common.{◌∙◌, arith}
use Rattle.std.proofs.lemmas.Option.{same_Some}
use Rattle.list_lemmas.proofs.Members.{IsAmong, length-le_from_own}
use Rattle.node_key.specs.Keys.{different, different_subtrees, distinct}
use Rattle.node_key.specs.declared.stake.Stake.{Stake}
use Rattle.node_key.specs.Stands.{Stands}
use Rattle.node_key.specs.Tree.{Tree}
use Rattle.shard_core.specs.Room.{Stored}
use Rattle.store_laws.specs.Counted.{IsStore}
use Rattle.store_laws.specs.Store.{Store, key_in, node_in, nodes_in}
use Rattle.store_laws.proofs.CanonicKeys.{node_of_key}
use Rattle.store_laws.proofs.CanonicTrees.{one_number, one_tree}
use Rattle.store_laws.proofs.ReachNodes.{IsApart-nodes_in, node_found, node_listed}
use Rattle.store_laws.proofs.ReachStakes.{reached}
use Rattle.store_laws.proofs.SubtreesDifferent.{IsAmong-different, IsAmong-from_different, IsApart-different}
use Rattle.store_laws.proofs.SubtreesStand.{number_of_subtree, staked_subtrees, tree_of_reached}

-- ---- nodes and trees

-- a node of the store and its tree
record HasTree (rooms : Store) (e : ℕ × Stored) (t : Tree) : Type 0 where
  there : node_in rooms e.0 ≡ Some e.1
  stands : Stands (key_in rooms) e.0 t

node_has_tree : (rooms : Store) (held : List Stake) (e : ℕ × Stored) → IsStore rooms held
    → IsAmong (nodes_in rooms) e
    → (t : Tree) × IsAmong (different (staked_subtrees held)) t × HasTree rooms e t
node_has_tree rooms held e store h =
    let there = node_found rooms e.0 e.1 store.canonic h in
    let (t, among, stands) = tree_of_reached rooms held e.0 store (reached rooms held e.0 e.1 store there) in
    (t, IsAmong-different (staked_subtrees held) t among, record { there = there; stands = stands })

tree_has_node : (rooms : Store) (held : List Stake) (t : Tree) → IsStore rooms held
    → IsAmong (different (staked_subtrees held)) t
    → (e : ℕ × Stored) × IsAmong (nodes_in rooms) e × HasTree rooms e t
tree_has_node rooms held t store h =
    let among = IsAmong-from_different (staked_subtrees held) t h in
    let (n, stands) = number_of_subtree rooms held t store among in
    let (s, there, is) = node_of_key rooms n stands.0 stands.2 in
    ((n, s), node_listed rooms n s store.canonic there, record { there = there; stands = stands })

one_node : (rooms : Store) (held : List Stake) (d e : ℕ × Stored) (t : Tree) → IsStore rooms held
    → HasTree rooms d t → HasTree rooms e t → d ≡ e
one_node rooms held d e t store a b =
    let number : d.0 ≡ e.0 = one_number rooms d.0 e.0 t store.canonic a.stands b.stands in
    let stored : d.1 ≡ e.1 = same_Some d.1 e.1 (sym a.there ∙ ap (node_in rooms) number ∙ b.there) in
    λ i. (number i, stored i)

pub as_many_nodes : (rooms : Store) (held : List Stake) → IsStore rooms held
    → length (nodes_in rooms) ≡ distinct (map (λ (x : Stake). x.tree) held)
unfolding different_subtrees
as_many_nodes rooms held store =
    let trees = different (staked_subtrees held) in
    let most = length-le_from_own (HasTree rooms) (nodes_in rooms) trees
    (IsApart-nodes_in rooms store.canonic)
    (λ e h. node_has_tree rooms held e store h) (λ d e t a b. one_node rooms held d e t store a b) in
    let least = length-le_from_own (λ (t : Tree) (e : ℕ × Stored). HasTree rooms e t) trees (nodes_in rooms)
    (IsApart-different (staked_subtrees held)) (λ t h. tree_has_node rooms held t store h)
    (λ t u e a b. one_tree (key_in rooms) e.0 t u a.stands b.stands) in
    omega (arith, most, least)
