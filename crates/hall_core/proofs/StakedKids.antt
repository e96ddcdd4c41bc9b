-- Whether a key is that of a tree over stakes, kid by kid.
use Rattle.std.proofs.Common.{◌≡◌, ◌↔◌, ℕ, ◌+◌, ◌≤◌, ◌<◌, max, All, Contains, List, [], ◌∷◌}
use Rattle.std.proofs.Common.{◌++◌, length, take, get_or, refl, sym, ap, subst, ◌∙◌, arith}
use Rattle.std.specs.List.{AllZip}
use Rattle.std.proofs.lemmas.List.{take_all, take_more}
use Rattle.std.proofs.lemmas.List.Elements.{All-contains, All-more, Contains-get_or}
use Rattle.node_key.specs.Stakes.{stake}
use Rattle.node_key.specs.Tree.{Tree, height, height_above}
use Rattle.node_key.specs.declared.key.Kid.{Kid}
use Rattle.node_key.specs.declared.key.NodeKey.{NodeKey}
use Rattle.node_key.specs.declared.stake.Stake.{Stake}
use Rattle.store_laws.specs.Counted.{stakes_on}
use Rattle.store_laws.specs.Store.{kids_in}
use Rattle.hall_core.specs.OneTree.{IsStakedTree, OneTreeEach}
use Rattle.hall_core.proofs.StakesEnough.{enough_had, has_enough, kids_on}
use Rattle.hall_core.proofs.TreeOverStakes.{IsKidStake, kids_over, same_stakes, stake_on, staked_over}
use Rattle.hall_core.proofs.TreeOverStakes.{tree_of, tree_over}

-- trees of stakes on one number are of one duration
pub one_dur : (stakes : List Stake) (x y : Stake) → OneTreeEach stakes → Contains stakes x
    → Contains stakes y → x.number ≡ y.number → x.tree.dur ≡ y.tree.dur
one_dur stakes x y one there also same = ap (λ (z : Stake). z.tree.dur) (one x y there also same)

-- so many stakes are on the kid's number as the kids name it
abbrev pub IsEnough : List Stake → List Kid → Kid → Type 0
IsEnough stakes ks k = kids_on k.node ks ≤ stakes_on k.node stakes

-- there are stakes on the first kids, and the tree over them is so high
pub record StakedSoFar (stakes : List Stake) (ks : List Kid) (height i : ℕ) : Type 0 where
  pub kids : List Stake
  pub on : AllZip (IsKidStake stakes) (take i ks) kids
  pub high : height ≡ height_above (kids_over (take i ks) kids)
  pub enough : All (IsEnough stakes ks) (take i ks)

-- one kid more has its stake
on-push : (stakes : List Stake) (ks : List Kid) (xs : List Stake) (k : Kid) (x : Stake)
    → AllZip (IsKidStake stakes) ks xs → IsKidStake stakes k x
    → AllZip (IsKidStake stakes) (ks ++ k ∷ []) (xs ++ x ∷ [])
on-push stakes [] [] k x on here = (here, tt)
on-push stakes [] (y ∷ ys) k x on here = absurd on
on-push stakes (j ∷ js) [] k x on here = absurd on
on-push stakes (j ∷ js) (y ∷ ys) k x on here = (on.0, on-push stakes js ys k x on.1 here)

-- ... and the tree over it may be higher
height-push : (stakes : List Stake) (ks : List Kid) (xs : List Stake) (k : Kid) (x : Stake)
    → AllZip (IsKidStake stakes) ks xs → height_above (kids_over (ks ++ k ∷ []) (xs ++ x ∷ []))
    ≡ max (height_above (kids_over ks xs)) (height x.tree + 1)
height-push stakes [] [] k x on = omega arith
height-push stakes [] (y ∷ ys) k x on = absurd on
height-push stakes (j ∷ js) [] k x on = absurd on
height-push stakes (j ∷ js) (y ∷ ys) k x on = omega (arith, height-push stakes js ys k x on.1)

-- one kid more
pub so_far-more : (stakes : List Stake) (ks : List Kid) (height' high i : ℕ) (d : Kid) (t : Tree)
    → StakedSoFar stakes ks high i → i < length ks → Contains stakes (stake (get_or ks i d).node t)
    → t.dur ≡ (get_or ks i d).span → IsEnough stakes ks (get_or ks i d) → height' ≡ max high (height t + 1)
    → StakedSoFar stakes ks height' (i + 1)
so_far-more stakes ks height' high i d t s below there span enough higher =
    let x = stake (get_or ks i d).node t in
    let on : IsKidStake stakes (get_or ks i d) x = record { there = there; number = refl; span = span } in
    let k = get_or ks i d in
    let more : take (i + 1) ks ≡ take i ks ++ k ∷ [] = take_more ks i d below in
    record {
      kids = s.kids ++ x ∷ [];
      on = subst (λ (js : List Kid). AllZip (IsKidStake stakes) js (s.kids ++ x ∷ [])) (sym more)
          (on-push stakes (take i ks) s.kids k x s.on on);
      high = higher ∙ ap (λ (n : ℕ). max n (height x.tree + 1)) s.high
          ∙ sym (height-push stakes (take i ks) s.kids k x s.on)
          ∙ ap (λ (js : List Kid). height_above (kids_over js (s.kids ++ x ∷ []))) (sym more);
      enough = All-more (IsEnough stakes ks) ks i d below s.enough enough;
    }

-- a kid that is wanting
pub wanting : (stakes : List Stake) (key : NodeKey) (i : ℕ) (d : Kid) → OneTreeEach stakes
    → i < length (kids_in key)
    → ((x : Stake) → Contains stakes x → x.number ≡ (get_or (kids_in key) i d).node
    → x.tree.dur ≡ (get_or (kids_in key) i d).span
    → stakes_on (get_or (kids_in key) i d).node stakes
    < kids_on (get_or (kids_in key) i d).node (kids_in key))
    → (t : Tree) (kids : List Stake) → IsStakedTree stakes key t kids → ⊥
wanting stakes key i d one below want t kids staked =
    let k = get_or (kids_in key) i d in
    let over = tree_over stakes key t kids staked in
    let there = Contains-get_or (kids_in key) i d below in
    let at = stake_on stakes (kids_in key) kids k over.on there in
    let few = want at.0 at.2.there at.2.number at.2.span in
    let many = enough_had stakes (kids_in key) kids k one over.on staked.has there in
    omega (arith, few, many)

-- all kids are done
pub so_far-end : (stakes : List Stake) (key : NodeKey) (high i : ℕ) → OneTreeEach stakes
    → StakedSoFar stakes (kids_in key) high i → length (kids_in key) ≤ i → length (kids_in key) ≡ key.len
    → (key.height ≡ high)
    ↔ ((t : Tree) × (kids : List Stake) × IsStakedTree stakes key t kids)
so_far-end stakes key high i one s all len =
    let ks = kids_in key in
    let whole : take i ks ≡ ks = take_all i ks all in
    let on = subst (λ (js : List Kid). AllZip (IsKidStake stakes) js s.kids) whole s.on in
    let is : high ≡ height_above (kids_over ks s.kids) = s.high
    ∙ ap (λ (js : List Kid). height_above (kids_over js s.kids)) whole in
    let enough = subst (λ (js : List Kid). All (IsEnough stakes ks) js) whole s.enough in
    let each = λ (k : Kid) (there : Contains ks k). All-contains (IsEnough stakes ks) ks k enough there in
    let has = has_enough stakes ks s.kids one on each in (
      λ same. (tree_of key s.kids, s.kids, staked_over stakes key s.kids on has len (same ∙ is)),
      λ (t, kids, staked).
          let over = tree_over stakes key t kids staked in
          let same = same_stakes stakes ks kids s.kids one over.on on in
          over.high ∙ ap (λ (xs : List Stake). height_above (kids_over ks xs)) same ∙ sym is,
    )
