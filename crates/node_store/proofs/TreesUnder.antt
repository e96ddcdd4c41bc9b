-- A number that stands for a tree stands for the one that is computed.
use Rattle.std.proofs.Common.{◌≡◌, ℕ, zero, suc, ◌+◌, ◌<◌, ◌≤◌, List, [], ◌∷◌, length, map, Option, Some}
use Rattle.std.proofs.Common.{refl}
use Rattle.std.proofs.Common.{sym, ap, ◌∙◌, arith, subst, slice_get, Contains, zero-lt-suc}
use Rattle.std.specs.Option.{option_map_or}
use Rattle.std.proofs.lemmas.Option.{none-some, same_Some}
use Rattle.list_lemmas.proofs.Fronts.{behind_first, first_or, no_cons}
use Rattle.node_key.specs.Branches.{kids_of}
use Rattle.node_key.specs.Keys.{IsKeyOf, numbered}
use Rattle.node_key.specs.Stakes.{AreOnKids, IsOverStakes}
use Rattle.node_key.specs.declared.stake.Stake.{Stake}
use Rattle.node_key.specs.Stands.{KeyAt, Stands}
use Rattle.node_key.specs.Tree.{Kids, Tree, count, height, height_above, kid, no_kids}
use Rattle.node_key.specs.declared.key.Kid.{Kid}
use Rattle.node_key.specs.declared.key.NodeKey.{NodeKey}
use Rattle.node_key.specs.declared.tree.Branch.{Branch}
use Rattle.store_laws.specs.Store.{kids_in}
use Rattle.store_laws.proofs.StepsOfKids.{AreOnKids-stakes_of, Stands-carried, numbers}
use Rattle.store_laws.proofs.StepsOfKids.{numbers-stakes_of, stakes_of, stakes_of-Stand}
use Rattle.node_store.specs.TreeUnder.{kid_stakes, tree_to_depth, tree_under}

behind : (x y : Stake) (xs : List Stake) → Contains xs x → Contains (y ∷ xs) x
behind x y xs (i, below, is) = (suc i, omega (arith, below), is)

-- a kid of a key as a branch
abbrev branch_at : KeyAt → ℕ → Kid → Branch
branch_at at depth c = record { gap = c.gap; tree = tree_to_depth depth at (at c.node) }

abbrev kids_at : KeyAt → ℕ → List Kid → Kids
kids_at at depth cs = kids_of (map (branch_at at depth) cs)

without_kids : (k : Kids) → height_above k ≤ 0 → no_kids ≡ k
without_kids no_kids low = refl
without_kids (kid gap func dur inner more) low = absurd (omega (arith, low))

-- a tree whose kids are computed one depth less is computed
one_to_depth : (at : KeyAt) (depth : ℕ) (o : Option NodeKey) (key : NodeKey) (ms : List ℕ) (t : Tree)
    → o ≡ Some key
    → IsKeyOf t ms key → height t ≤ depth
    → ((d : ℕ) → depth ≡ suc d → kids_at at d (numbered t.kids ms) ≡ t.kids) → tree_to_depth depth at o ≡ t
one_to_depth at zero o key ms t is of low below =
    ap (tree_to_depth zero at) is ∙ (λ i. let u : Tree = record {
      func = of.func i;
      dur = of.dur i;
      kids = without_kids t.kids low i;
    } in u)
one_to_depth at (suc d) o key ms t is of low below =
    let kids = ap (kids_at at d) of.kids ∙ below d refl in
    ap (tree_to_depth (suc d) at) is ∙ (λ i. let u : Tree = record {
      func = of.func i;
      dur = of.dur i;
      kids = kids i;
    } in u)

-- by induction on the kids, which are read off the stakes on them
kids_to_depth : (at : KeyAt) (depth : ℕ) (k : Kids) (xs : List Stake) → AreOnKids k xs
    → ((x : Stake) → Contains xs x → Stands at x.number x.tree) → height_above k ≤ depth + 1
    → kids_at at depth (numbered k (numbers xs)) ≡ k
kids_to_depth at depth no_kids xs on each low = refl
kids_to_depth at depth (kid gap func dur inner more) [] on each low = absurd (no_cons _ _ (sym on))
kids_to_depth at depth (kid gap func dur inner more) (x ∷ xs) on each low =
    let t : Tree = record { func = func; dur = dur; kids = inner } in
    let same : x.tree ≡ t = ap (first_or x.tree) on in
    let (key, ms, is, of, below) : Stands at x.number t = subst (λ (u : Tree). Stands at x.number u) same
    (each x (0, zero-lt-suc (length xs), refl)) in
    let first = one_to_depth at depth (at x.number) key ms t is of (omega (arith, low)) (λ d deep.
    ap (λ (ns : List ℕ). kids_at at d (numbered inner ns)) (sym (numbers-stakes_of at ms inner below))
    ∙ kids_to_depth at d inner (stakes_of ms inner) (AreOnKids-stakes_of at ms inner below)
    (λ y there. stakes_of-Stand at ms inner y below there) (omega (arith, low, deep))) in
    let others = kids_to_depth at depth more xs (ap behind_first on) (λ y there. each y (behind y x xs there))
    (omega (arith, low)) in
    λ i. kid gap (first i).func (first i).dur (first i).kids (others i)

-- to any depth that is no less than its height
pub tree_is_to_depth : (at : KeyAt) (depth n : ℕ) (t : Tree) → Stands at n t → height t ≤ depth
    → tree_to_depth depth at (at n) ≡ t
tree_is_to_depth at depth n t (key, ns, is, of, below) low =
    one_to_depth at depth (at n) key ns t is of low (λ d deep.
    ap (λ (ms : List ℕ). kids_at at d (numbered t.kids ms)) (sym (numbers-stakes_of at ns t.kids below))
    ∙ kids_to_depth at d t.kids (stakes_of ns t.kids) (AreOnKids-stakes_of at ns t.kids below)
    (λ y there. stakes_of-Stand at ns t.kids y below there) (omega (arith, low, deep)))

pub tree_is : (at : KeyAt) (n : ℕ) (t : Tree) → Stands at n t → tree_under at n ≡ t
tree_is at n t stands =
    let key = stands.0 in
    let depth = ap (λ (o : Option NodeKey). option_map_or (λ (k : NodeKey). k.height) o 0) stands.2 in
    tree_is_to_depth at _ n t stands (omega (arith, depth, stands.3.height))

-- what stands is computed, and the computed tree stands
pub stands_so : (at : KeyAt) (n : ℕ) (t : Tree) → Stands at n t → Stands at n (tree_under at n)
stands_so at n t stands = subst (Stands at n) (sym (tree_is at n t stands)) stands

-- what stands still stands where more keys are found
pub stands_still : (before after : KeyAt) → ((n : ℕ) (key : NodeKey) → before n ≡ Some key
    → after n ≡ Some key)
    → (n : ℕ) (t : Tree) → Stands before n t → Stands after n t
stands_still before after keeps n t stands = Stands-carried before after (λ m. m ≡ m)
    (record { keeps = λ m key here at. keeps m key at; below = λ m key c here at there. refl }) n t refl
    stands

-- and the tree is the same
pub tree_still : (before after : KeyAt) → ((n : ℕ) (key : NodeKey) → before n ≡ Some key → after n ≡ Some key)
    → (n : ℕ) → Stands before n (tree_under before n) → tree_under after n ≡ tree_under before n
tree_still before after keeps n stands = tree_is after n (tree_under before n)
    (stands_still before after keeps n (tree_under before n) stands)

-- ---- kids

-- a kid stands for a tree that is lower
pub kid_stands : (at : KeyAt) (k : Kids) (xs : List Stake) (i : ℕ) (c : Kid) → AreOnKids k xs
    → ((x : Stake) → Contains xs x → Stands at x.number x.tree)
    → slice_get (numbered k (numbers xs)) i ≡ Some c
    → (t : Tree) × Stands at c.node t × (height t < height_above k)
kid_stands at no_kids xs i c on each is = absurd (none-some c is)
kid_stands at (kid gap func dur inner more) [] i c on each is = absurd (none-some c is)
kid_stands at (kid gap func dur inner more) (x ∷ xs) zero c on each is =
    let same : x.number ≡ c.node = ap (λ (o : Option Kid). option_map_or
    (λ (d : Kid). d.node) o x.number) is in
    let tree = ap (λ (ts : List Tree). height (first_or x.tree ts)) on in (
      x.tree,
      subst (λ (m : ℕ). Stands at m x.tree) same (each x (0, zero-lt-suc (length xs), refl)),
      omega (arith, tree),
    )
kid_stands at (kid gap func dur inner more) (x ∷ xs) (suc i) c on each is =
    let (t, stands, lower) = kid_stands at more xs i c (ap behind_first on)
    (λ y there. each y (behind y x xs there)) is in
    (t, stands, omega (arith, lower))

-- each kid of a key stands for a tree, and is lower than the key
pub kid_of_standing : (at : KeyAt) (n : ℕ) (t : Tree) (key : NodeKey) (i : ℕ) (c : Kid) → Stands at n t
    → at n ≡ Some key → slice_get (kids_in key) i ≡ Some c
    → (u : Tree) × Stands at c.node u × (height u < key.height)
kid_of_standing at n t key i c (own, ns, is, of, below) at_n there =
    let same : own ≡ key = same_Some own key (sym is ∙ at_n) in
    let place : slice_get (numbered t.kids (numbers (stakes_of ns t.kids))) i ≡ Some c =
    ap (λ (ms : List ℕ). slice_get (numbered t.kids ms) i) (numbers-stakes_of at ns t.kids below)
    ∙ ap (λ (cs : List Kid). slice_get cs i) (sym of.kids)
    ∙ ap (λ (k : NodeKey). slice_get (kids_in k) i) same ∙ there in
    let (u, stands, lower) = kid_stands at t.kids (stakes_of ns t.kids) i c
    (AreOnKids-stakes_of at ns t.kids below) (λ y in_it. stakes_of-Stand at ns t.kids y below in_it) place in
    let high = ap (λ (k : NodeKey). k.height) same in
    (u, stands, omega (arith, lower, high, of.height))

-- the stakes on the kids of a key are told by it
kids_told : (at : KeyAt) (k : Kids) (xs : List Stake) → length (numbers xs) ≡ count k
    → ((x : Stake) → Contains xs x → tree_under at x.number ≡ x.tree)
    → map (λ (c : Kid). let x : Stake = record { number = c.node; tree = tree_under at c.node } in x)
    (numbered k (numbers xs)) ≡ xs
kids_told at no_kids [] long each = refl
kids_told at no_kids (x ∷ xs) long each = absurd (omega (arith, long))
kids_told at (kid gap func dur inner more) [] long each = absurd (omega (arith, long))
kids_told at (kid gap func dur inner more) (x ∷ xs) long each =
    let first = each x (0, zero-lt-suc (length xs), refl) in
    let rest = kids_told at more xs (omega (arith, long)) (λ y there. each y (behind y x xs there)) in
    λ i. (let y : Stake = record { number = x.number; tree = first i } in y) ∷ rest i

pub kid_stakes_are : (at : KeyAt) (t : Tree) (kids : List Stake) (key : NodeKey) → IsOverStakes t kids key
    → ((x : Stake) → Contains kids x → tree_under at x.number ≡ x.tree) → kid_stakes at key ≡ kids
kid_stakes_are at t kids key over each =
    ap (map (λ (c : Kid). let x : Stake = record { number = c.node; tree = tree_under at c.node } in x))
    over.key_of.kids ∙ kids_told at t.kids kids over.key_of.numbers each
