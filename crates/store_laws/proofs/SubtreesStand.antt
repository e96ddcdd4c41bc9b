-- The trees that nodes stand for are the subtrees of the stakes' trees.
use Rattle.std.proofs.Common.{◌≡◌, inl, inr, ℕ, List, [], ◌∷◌, map, flat_map, refl, sym, ap, ◌∙◌, subst}
use Rattle.std.proofs.lemmas.Option.{same_Some}
use Rattle.list_lemmas.proofs.Members.{Contains-from_IsAmong, IsAmong, IsAmong-append_cases}
use Rattle.list_lemmas.proofs.Members.{IsAmong-append_left, IsAmong-append_right, IsAmong-flat_map}
use Rattle.list_lemmas.proofs.Members.{IsAmong-flat_map_cases, IsAmong-from_Contains, IsAmong-map}
use Rattle.list_lemmas.proofs.Members.{IsAmong-map_cases}
use Rattle.node_key.specs.Keys.{numbered, subtrees, trees_below}
use Rattle.node_key.specs.declared.stake.Stake.{Stake}
use Rattle.node_key.specs.Stands.{KeyAt, KidsStand, Stands}
use Rattle.node_key.specs.Tree.{Kids, Tree, kid, no_kids}
use Rattle.node_key.specs.declared.key.Kid.{Kid}
use Rattle.store_laws.specs.Counted.{IsStore}
use Rattle.store_laws.specs.Reached.{IsReached, staked, below}
use Rattle.store_laws.specs.Store.{Store, key_in, kids_in}
use Rattle.store_laws.proofs.CanonicKeys.{key_of_node}

-- ---- subtrees of subtrees

below_below : (ks : Kids) (t u : Tree) → IsAmong (trees_below ks) t → IsAmong (trees_below t.kids) u
    → IsAmong (trees_below ks) u
below_below no_kids t u h g = absurd h
below_below (kid gap func dur inner more) t u (inl e) g = inr (IsAmong-append_left (trees_below inner)
    (trees_below more) u (subst (λ (x : Tree). IsAmong (trees_below x.kids) u) (sym e) g))
below_below (kid gap func dur inner more) t u (inr h) g =
    elim (IsAmong-append_cases (trees_below inner) (trees_below more) t h) [
      | inl left ↦ inr (IsAmong-append_left (trees_below inner) (trees_below more) u
          (below_below inner t u left g))
      | inr right ↦ inr (IsAmong-append_right (trees_below inner) (trees_below more) u
          (below_below more t u right g))
    ]

-- what is below a subtree is a subtree
subtree_below : (x t u : Tree) → IsAmong (subtrees x) t → IsAmong (trees_below t.kids) u
    → IsAmong (subtrees x) u
subtree_below x t u (inl e) g = inr (subst (λ (y : Tree). IsAmong (trees_below y.kids) u) (sym e) g)
subtree_below x t u (inr h) g = inr (below_below x.kids t u h g)

-- all subtrees of the stakes' trees
abbrev pub staked_subtrees : List Stake → List Tree
staked_subtrees held = flat_map subtrees (map (λ (x : Stake). x.tree) held)

-- ---- what a reached node stands for

pub kid_tree : (at : KeyAt) (ks : Kids) (ns : List ℕ) (k : Kid) → KidsStand at ns ks → IsAmong (numbered ks ns) k
    → (u : Tree) × IsAmong (trees_below ks) u × Stands at k.node u
kid_tree at no_kids ns k stand h = absurd h
kid_tree at (kid gap func dur inner more) [] k stand h = absurd stand
kid_tree at (kid gap func dur inner more) (n ∷ ns) k stand (inl e) =
    let u : Tree = record { func = func; dur = dur; kids = inner } in
    let number : n ≡ k.node = ap (λ (l : Kid). l.node) e in
    (u, inl refl, subst (λ m. Stands at m u) number stand.0)
kid_tree at (kid gap func dur inner more) (n ∷ ns) k stand (inr h) =
    let (u, among, stands) = kid_tree at more ns k stand.1 h in
    (u, inr (IsAmong-append_right (trees_below inner) (trees_below more) u among), stands)

-- a reached node stands for a subtree of a stake's tree
pub tree_of_reached : (rooms : Store) (held : List Stake) (m : ℕ) → IsStore rooms held
    → IsReached rooms held m → (t : Tree) × IsAmong (staked_subtrees held) t × Stands (key_in rooms) m t
tree_of_reached rooms held m store (staked x h) = (
  x.tree,
  IsAmong-flat_map subtrees (map (λ (y : Stake). y.tree) held) x.tree x.tree
      (IsAmong-map (λ (y : Stake). y.tree) held x (IsAmong-from_Contains held x h)) (inl refl),
  store.counted.stands x h,
)
tree_of_reached rooms held m store (below n s k up is h) =
    let (t, among, (key, ns, at, of, stand)) = tree_of_reached rooms held n store up in
    let same : s.key ≡ key = same_Some s.key key (sym (key_of_node rooms n s is) ∙ at) in
    let kids : kids_in s.key ≡ numbered t.kids ns = ap kids_in same ∙ of.kids in
    let kid_among = subst (λ (l : List Kid). IsAmong l k) kids (IsAmong-from_Contains (kids_in s.key) k h) in
    let (u, under, stands) = kid_tree (key_in rooms) t.kids ns k stand kid_among in
    let trees : List Tree = map (λ (y : Stake). y.tree) held in
    let (x, x_among, t_under) = IsAmong-flat_map_cases subtrees trees t among in
    (u, IsAmong-flat_map subtrees trees x u x_among (subtree_below x t u t_under under), stands)

-- ---- a subtree's node

below_stands : (at : KeyAt) (ks : Kids) (ns : List ℕ) (u : Tree) → KidsStand at ns ks
    → IsAmong (trees_below ks) u → (n : ℕ) × Stands at n u
below_stands at no_kids ns u stand h = absurd h
below_stands at (kid gap func dur inner more) [] u stand h = absurd stand
below_stands at (kid gap func dur inner more) (n ∷ ns) u stand (inl e) = (n, subst (Stands at n) e stand.0)
below_stands at (kid gap func dur inner more) (n ∷ ns) u stand (inr h) =
    elim (IsAmong-append_cases (trees_below inner) (trees_below more) u h) [
      | inl left ↦ below_stands at inner stand.0.1 u stand.0.4 left
      | inr right ↦ below_stands at more ns u stand.1 right
    ]

subtree_stands : (at : KeyAt) (n : ℕ) (t u : Tree) → Stands at n t → IsAmong (subtrees t) u
    → (m : ℕ) × Stands at m u
subtree_stands at n t u stands (inl e) = (n, subst (Stands at n) e stands)
subtree_stands at n t u (key, ns, there, of, stand) (inr h) = below_stands at t.kids ns u stand h

-- a subtree of a stake's tree has a number that stands for it
pub number_of_subtree : (rooms : Store) (held : List Stake) (u : Tree) → IsStore rooms held
    → IsAmong (staked_subtrees held) u → (n : ℕ) × Stands (key_in rooms) n u
number_of_subtree rooms held u store h =
    let trees : List Tree = map (λ (y : Stake). y.tree) held in
    let (t, t_among, under) = IsAmong-flat_map_cases subtrees trees u h in
    let (x, x_among, same) = IsAmong-map_cases (λ (y : Stake). y.tree) held t t_among in
    let stands = store.counted.stands x (Contains-from_IsAmong held x x_among) in
    subtree_stands (key_in rooms) x.number x.tree u stands
    (subst (λ (y : Tree). IsAmong (subtrees y) u) (sym same) under)
