-- The items of the tree over stakes, kid by kid.
use Rattle.std.proofs.Common.{◌≡◌, ℕ, ◌+◌, ◌-◌, ◌<◌, ◌≤◌, All, Contains, List, [], ◌∷◌, ◌++◌, length, drop}
use Rattle.std.proofs.Common.{get_or, refl, sym, ap, subst, ◌∙◌, arith, add-one, append_assoc, append-nil}
use Rattle.std.proofs.Common.{drop-cons, sum_by, take-append-drop}
use Rattle.std.specs.List.{AllZip}
use Rattle.std.proofs.lemmas.List.{drop_all}
use Rattle.std.proofs.lemmas.List.Elements.{All-cons, All-nil}
use Rattle.std.proofs.lemmas.List.Sums.{sum_by-append, sum_by-cons}
use Rattle.std.proofs.lemmas.List.{drop_more}
use Rattle.node_key.specs.Branches.{kids_of}
use Rattle.node_key.specs.Items.{FitBetween, branches_from, node}
use Rattle.node_key.specs.Stakes.{stake}
use Rattle.node_key.specs.Tree.{Tree, height, height_above, kid}
use Rattle.node_key.specs.declared.item.Item.{Item}
use Rattle.node_key.specs.declared.key.Kid.{Kid}
use Rattle.node_key.specs.declared.key.NodeKey.{NodeKey}
use Rattle.node_key.specs.declared.limits.TheConstants.{HEIGHT_BOUND, MAX_KIDS}
use Rattle.node_key.specs.declared.stake.Stake.{Stake}
use Rattle.store_laws.specs.Store.{kids_in}
use Rattle.hall_core.specs.OneTree.{IsStakedTree, OneTreeEach}
use Rattle.hall_core.proofs.TreeOverStakes.{IsKidStake, kids_over, stake_at, tree_over}

-- how long a kid and the gap before it take
abbrev pub spans : List Kid → ℕ
spans ks = sum_by (λ k. k.gap + k.span) ks

-- the items of stakes on kids, where the time before the first begins at `from`
abbrev pub items_over : ℕ → List Kid → List Stake → List Item
items_over from (k ∷ ks) (x ∷ xs) = record { at = from + k.gap; tree = x.tree }
    ∷ items_over (from + k.gap + k.span) ks xs
items_over from _ _ = []

-- the items so far, and those of the kids that are left
pub record ItemsOver (key : NodeKey) (kids : List Stake) (items : List Item) (from i : ℕ) : Type 0 where
  pub so_far : items ++ items_over from (drop i (kids_in key)) (drop i kids)
      ≡ items_over 0 (kids_in key) kids

-- ... whatever tree it is, and they take no longer than the tree
pub record ItemsSoFar (stakes : List Stake) (key : NodeKey) (items : List Item) (from i : ℕ) : Type 0 where
  pub time : from + spans (drop i (kids_in key)) ≤ key.dur
  pub over : (t : Tree) (kids : List Stake) → IsStakedTree stakes key t kids → ItemsOver key kids items from i

-- the kids of a key take no longer than it
spans_within : (key : NodeKey) → spans (kids_in key) ≤ key.dur
spans_within key =
    let f = λ (k : Kid). k.gap + k.span in
    omega (
      arith,
      key.within,
      ap (sum_by f) (take-append-drop key.len key.kids),
      sum_by-append f (kids_in key) (drop key.len key.kids),
    )

-- where the next kid lies
next_time : (stakes : List Stake) (key : NodeKey) (items : List Item) (from i : ℕ) (d : Kid)
    → ItemsSoFar stakes key items from i → i < length (kids_in key)
    → from + (get_or (kids_in key) i d).gap + (get_or (kids_in key) i d).span
    + spans (drop (i + 1) (kids_in key)) ≤ key.dur
next_time stakes key items from i d s below =
    let k = get_or (kids_in key) i d in
    omega (
      arith,
      s.time,
      ap spans (drop_more (kids_in key) i d below),
      sum_by-cons (λ (k : Kid). k.gap + k.span) k (drop (i + 1) (kids_in key)),
    )

-- a stake on the next kid
pub next_staked : (stakes : List Stake) (key : NodeKey) (t : Tree) (kids : List Stake) (i : ℕ) (d : Kid)
    → IsStakedTree stakes key t kids → i < length (kids_in key)
    → (x : Stake) × Contains stakes x × (x.number ≡ (get_or (kids_in key) i d).node)
next_staked stakes key t kids i d staked below =
    let at = stake_at stakes (kids_in key) kids i d (tree_over stakes key t kids staked).on below in
    (at.stake, at.on.there, at.on.number)

-- one item more
pub items-more : (stakes : List Stake) (key : NodeKey) (items items' : List Item) (from from' i : ℕ) (d : Kid)
    (u v : Tree)
    → OneTreeEach stakes → ItemsSoFar stakes key items from i → i < length (kids_in key)
    → Contains stakes (stake (get_or (kids_in key) i d).node u) → v ≡ u
    → items' ≡ items ++ record { at = from + (get_or (kids_in key) i d).gap; tree = v } ∷ []
    → from' ≡ from + (get_or (kids_in key) i d).gap + (get_or (kids_in key) i d).span
    → ItemsSoFar stakes key items' from' (i + 1)
items-more stakes key items items' from from' i d u v one s below there copied more later = record {
  time = omega (arith, next_time stakes key items from i d s below, later);
  over = λ t kids staked.
      let ks = kids_in key in
      let k = get_or ks i d in
      let at = stake_at stakes ks kids i d (tree_over stakes key t kids staked).on below in
      let x = at.stake in
      let same : x.tree ≡ v = ap (λ (y : Stake). y.tree)
      (one x (stake k.node u) at.on.there there at.on.number) ∙ sym copied in
      let left : drop i kids ≡ x ∷ drop (i + 1) kids = drop-cons kids i x at.below
      ∙ ap (λ (n : ℕ). get_or kids i x ∷ drop n kids) (sym (add-one i))
      ∙ ap (λ (y : Stake). y ∷ drop (i + 1) kids) at.here in
      let rest = λ (n : ℕ). items_over n (drop (i + 1) ks) (drop (i + 1) kids) in
      let item : Item = record { at = from + k.gap; tree = v } in
      record {
        so_far = ap (λ (is : List Item). is ++ rest from') more
            ∙ append_assoc items (item ∷ []) (rest from')
            ∙ ap (λ (n : ℕ). items ++ item ∷ rest n) later
            ∙ ap (λ (w : Tree). items ++ record { at = from + k.gap; tree = w }
            ∷ rest (from + k.gap + k.span)) (sym same)
            ∙ ap (λ (xs : List Stake). items ++ items_over from (k ∷ drop (i + 1) ks) xs) (sym left)
            ∙ ap (λ (js : List Kid). items ++ items_over from js (drop i kids)) (sym (drop_more ks i d below))
            ∙ (s.over t kids staked).so_far;
      };
}

-- ---- the items of all kids

-- they fit in the time that the kids have
items_fit : (stakes : List Stake) (ks : List Kid) (xs : List Stake) (from end : ℕ)
    → AllZip (IsKidStake stakes) ks xs → from + spans ks ≤ end → FitBetween from end (items_over from ks xs)
items_fit stakes [] [] from end on time = omega (arith, time)
items_fit stakes [] (x ∷ xs) from end on time = absurd on
items_fit stakes (k ∷ ks) [] from end on time = absurd on
items_fit stakes (k ∷ ks) (x ∷ xs) from end on time =
    let f = λ (k : Kid). k.gap + k.span in
    let later : from + k.gap + k.span + spans ks ≤ end = omega (arith, time, sum_by-cons f k ks) in (
      omega arith,
      subst (λ (n : ℕ). FitBetween (from + k.gap + n) end (items_over (from + k.gap + k.span) ks xs))
          (sym on.0.span) (items_fit stakes ks xs (from + k.gap + k.span) end on.1 later),
    )

-- each is lower than the tree
items_low : (ks : List Kid) (xs : List Stake) (from bound : ℕ) → height_above (kids_over ks xs) ≤ bound
    → All (λ i. height i.tree < bound) (items_over from ks xs)
items_low [] [] from bound low = All-nil (λ (i : Item). height i.tree < bound)
items_low [] (x ∷ xs) from bound low = All-nil (λ (i : Item). height i.tree < bound)
items_low (k ∷ ks) [] from bound low = All-nil (λ (i : Item). height i.tree < bound)
items_low (k ∷ ks) (x ∷ xs) from bound low =
    let next = from + k.gap + k.span in
    All-cons (λ (i : Item). height i.tree < bound) (record { at = from + k.gap; tree = x.tree })
    (items_over next ks xs) (omega (arith, low)) (items_low ks xs next bound (omega (arith, low)))

-- there are no more of them than kids
items_long : (ks : List Kid) (xs : List Stake) (from : ℕ) → length (items_over from ks xs) ≤ length ks
items_long [] [] from = omega arith
items_long [] (x ∷ xs) from = omega arith
items_long (k ∷ ks) [] from = omega arith
items_long (k ∷ ks) (x ∷ xs) from = omega (arith, items_long ks xs (from + k.gap + k.span))

-- the node over them has the kids of the tree
items_kids : (stakes : List Stake) (ks : List Kid) (xs : List Stake) (from : ℕ)
    → AllZip (IsKidStake stakes) ks xs
    → kids_of (branches_from from (items_over from ks xs)) ≡ kids_over ks xs
items_kids stakes [] [] from on = refl
items_kids stakes [] (x ∷ xs) from on = absurd on
items_kids stakes (k ∷ ks) [] from on = absurd on
items_kids stakes (k ∷ ks) (x ∷ xs) from on =
    let next = from + k.gap + k.span in
    let gap : from + k.gap - from ≡ k.gap = omega arith in
    let rest = ap (λ (n : ℕ). kids_of (branches_from (from + k.gap + n) (items_over next ks xs))) on.0.span
    ∙ items_kids stakes ks xs next on.1 in
    λ i. kid (gap i) x.tree.func x.tree.dur x.tree.kids (rest i)

-- what the items of all kids make
pub record AreItems (key : NodeKey) (t : Tree) (items : List Item) : Type 0 where
  pub few : length items ≤ MAX_KIDS
  pub within : FitBetween 0 key.dur items
  pub low : All (λ i. height i.tree < HEIGHT_BOUND) items
  pub made : node key.func 0 key.dur items ≡ t

-- all kids are done
pub items-end : (stakes : List Stake) (key : NodeKey) (items : List Item) (from i : ℕ)
    → ItemsSoFar stakes key items from i → length (kids_in key) ≤ i → (t : Tree) (kids : List Stake)
    → IsStakedTree stakes key t kids → key.height ≤ HEIGHT_BOUND → AreItems key t items
items-end stakes key items from i s all t kids staked low =
    let ks = kids_in key in
    let tree = tree_over stakes key t kids staked in
    let none : drop i ks ≡ [] = drop_all i ks all in
    let whole : items_over 0 ks kids ≡ items = sym (s.over t kids staked).so_far
    ∙ ap (λ (js : List Kid). items ++ items_over from js (drop i kids)) none ∙ append-nil items in
    let high = ap height_above tree.kids_are in
    let func = sym tree.func in
    let dur : key.dur - 0 ≡ t.dur = omega (arith, tree.dur) in
    let made = items_kids stakes ks kids 0 tree.on ∙ sym tree.kids_are in
    subst (AreItems key t) whole (record {
      few = omega (arith, items_long ks kids 0, tree.len, key.few);
      within = items_fit stakes ks kids 0 key.dur tree.on (omega (arith, spans_within key));
      low = items_low ks kids 0 HEIGHT_BOUND (omega (arith, high, low, staked.over.key_of.height));
      made = λ j. record { func = func j; dur = dur j; kids = made j };
    })
