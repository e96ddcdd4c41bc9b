-- Stakes on the kids of a key, made of its numbers and of the kids of its tree.
use Rattle.std.proofs.Common.{◌≡◌, ℕ, ◌+◌, ◌<◌, List, [], ◌∷◌, ◌++◌, length, map, take, get_or, Some}
use Rattle.std.proofs.Common.{slice_get, option_map, refl, sym, ap, subst, ◌∙◌, arith}
use Rattle.std.proofs.lemmas.List.{map-append, take_all, take_more}
use Rattle.std.proofs.lemmas.Option.{get_or_from_slice_get, slice_get-map, slice_get_within}
use Rattle.node_key.specs.Branches.{branches}
use Rattle.node_key.specs.Keys.{IsKeyOf, numbered}
use Rattle.node_key.specs.Stakes.{IsOverStakes, stake}
use Rattle.node_key.specs.Tree.{Kids, Tree, count, kid, no_kids}
use Rattle.node_key.specs.declared.key.Kid.{Kid}
use Rattle.node_key.specs.declared.key.NodeKey.{NodeKey}
use Rattle.node_key.specs.declared.stake.Stake.{Stake}
use Rattle.node_key.specs.declared.tree.Branch.{Branch}

-- the trees of the kids
abbrev trees : Kids → List Tree
trees kids = map (λ (b : Branch). b.tree) (branches kids)

-- the stakes on the first kids
pub record KidStakes (key : NodeKey) (t : Tree) (kids : List Stake) (i : ℕ) : Type 0 where
  pub numbers : map (λ x. x.number) kids ≡ map (λ k. k.node) (take i key.kids)
  pub trees_are : map (λ x. x.tree) kids ≡ take i (trees t.kids)

-- one kid more
pub kid_stakes-more : (key : NodeKey) (t : Tree) (kids kids' : List Stake) (i : ℕ) (d : Kid) (u v : Tree)
    → KidStakes key t kids i → i < length key.kids
    → option_map (λ (b : Branch). b.tree) (slice_get (branches t.kids) i) ≡ Some u → v ≡ u
    → kids' ≡ kids ++ stake (get_or key.kids i d).node v ∷ [] → KidStakes key t kids' (i + 1)
kid_stakes-more key t kids kids' i d u v s below there copied more =
    let x = stake (get_or key.kids i d).node v in
    let at : slice_get (trees t.kids) i ≡ Some u =
    slice_get-map (λ (b : Branch). b.tree) (branches t.kids) i ∙ there in
    let within = slice_get_within (trees t.kids) i u at in
    let here = get_or_from_slice_get (trees t.kids) i u u at in
    record {
      numbers = ap (map (λ (y : Stake). y.number)) more ∙ map-append (λ (y : Stake). y.number) kids (x ∷ [])
          ∙ ap (λ (ns : List ℕ). ns ++ x.number ∷ []) s.numbers
          ∙ sym (map-append (λ (k : Kid). k.node) (take i key.kids) (get_or key.kids i d ∷ []))
          ∙ ap (map (λ (k : Kid). k.node)) (sym (take_more key.kids i d below));
      trees_are = ap (map (λ (y : Stake). y.tree)) more ∙ map-append (λ (y : Stake). y.tree) kids (x ∷ [])
          ∙ ap (λ (ts : List Tree). ts ++ v ∷ []) s.trees_are
          ∙ ap (λ (w : Tree). take i (trees t.kids) ++ w ∷ []) (copied ∙ sym here)
          ∙ sym (take_more (trees t.kids) i u within);
    }

-- the numbers of the kids of a key are those that it is over
nodes-numbered : (kids : Kids) (ns : List ℕ) → length ns ≡ count kids
    → map (λ (k : Kid). k.node) (numbered kids ns) ≡ ns
nodes-numbered no_kids [] long = refl
nodes-numbered no_kids (n ∷ ns) long = absurd (omega (arith, long))
nodes-numbered (kid gap func dur inner more) [] long = absurd (omega (arith, long))
nodes-numbered (kid gap func dur inner more) (n ∷ ns) long =
    ap (λ (ms : List ℕ). n ∷ ms) (nodes-numbered more ns (omega (arith, long)))

-- each kid has a tree
length-trees : (kids : Kids) → length (trees kids) ≡ count kids
length-trees no_kids = refl
length-trees (kid gap func dur inner more) = omega (arith, length-trees more)

-- all kids are done
pub kid_stakes-end : (key : NodeKey) (t : Tree) (kids : List Stake) (i : ℕ) (ns : List ℕ)
    → KidStakes key t kids i → i ≡ key.len → IsKeyOf t ns key → IsOverStakes t kids key
kid_stakes-end key t kids i ns s all of =
    let are : map (λ (x : Stake). x.number) kids ≡ ns = s.numbers
    ∙ ap (λ (n : ℕ). map (λ (k : Kid). k.node) (take n key.kids)) all
    ∙ ap (map (λ (k : Kid). k.node)) of.kids ∙ nodes-numbered t.kids ns of.numbers in
    record {
      key_of = subst (λ (ms : List ℕ). IsKeyOf t ms key) (sym are) of;
      kids = s.trees_are ∙ take_all i (trees t.kids) (omega (arith, length-trees t.kids, all, of.len));
    }
