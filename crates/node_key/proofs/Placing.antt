-- A node under way: its branches so far, and the items that are left.
use Rattle.std.proofs.Common.{◌≡◌, ℕ, ◌+◌, ◌-◌, ◌<◌, ◌≤◌, max, List, [], ◌∷◌, ◌++◌, sym, subst}
use Rattle.std.proofs.Common.{◌∙◌, arith, All}
use Rattle.std.proofs.Common.{append_assoc, append-nil}
use Rattle.std.proofs.lemmas.List.Elements.{All-head, All-tail}
use Rattle.node_key.specs.Tree.{height, height_above}
use Rattle.node_key.specs.Branches.{kids_of}
use Rattle.node_key.specs.Items.{end_of, branches_from, FitBetween}
use Rattle.node_key.specs.declared.item.Item.{Item}
use Rattle.node_key.specs.declared.tree.Branch.{Branch}
use Rattle.node_key.specs.declared.limits.TheConstants.{HEIGHT_BOUND}
use Rattle.node_key.proofs.Kids.{FitBetween-le}

-- the height of a node over these branches
abbrev pub height_over : ℕ → List Item → ℕ
height_over from is = height_above (kids_of (branches_from from is))

-- `kids` and the branches of the items that are left are those of all items
pub record Placing (start end : ℕ) (all : List Item) (kids : List Branch) (from highest : ℕ)
    (rest : List Item) : Type 0 where
  pub placed : kids ++ branches_from from rest ≡ branches_from start all
  pub fit : FitBetween from end rest
  pub low : All (λ i. height i.tree < HEIGHT_BOUND) rest
  pub height : max highest (height_over from rest) ≡ height_over start all
  pub bounded : highest ≤ HEIGHT_BOUND

-- what the next item's place is
pub Placing-next : (start end : ℕ) (all : List Item) (kids : List Branch) (from highest : ℕ) (i : Item)
    (rest : List Item)
    → Placing start end all kids from highest (i ∷ rest)
    → (from ≤ i.at) × (end_of i ≤ end) × (height i.tree < HEIGHT_BOUND)
Placing-next start end all kids from highest i rest p = (
  p.fit.0,
  FitBetween-le (end_of i) end rest p.fit.1,
  All-head (λ (i : Item). height i.tree < HEIGHT_BOUND) i rest p.low,
)

-- one item more
pub Placing-more : (start end : ℕ) (all : List Item) (kids : List Branch) (from highest : ℕ) (i : Item)
    (rest : List Item)
    → Placing start end all kids from highest (i ∷ rest)
    → Placing start end all (kids ++ record { gap = i.at - from; tree = i.tree } ∷ []) (end_of i)
    (max highest (height i.tree + 1)) rest
Placing-more start end all kids from highest i rest p = record {
  placed = append_assoc kids (record { gap = i.at - from; tree = i.tree } ∷ [])
      (branches_from (end_of i) rest) ∙ p.placed;
  fit = p.fit.1;
  low = All-tail (λ (i : Item). height i.tree < HEIGHT_BOUND) i rest p.low;
  height = omega (arith, p.height);
  bounded = omega (arith, p.bounded, All-head (λ (i : Item). height i.tree < HEIGHT_BOUND) i rest p.low);
}

-- no item is left
pub Placing-end : (start end : ℕ) (all : List Item) (kids : List Branch) (from highest : ℕ) (rest : List Item)
    → Placing start end all kids from highest rest → rest ≡ [] → (kids ≡ branches_from start all)
    × (highest ≡ height_over start all)
Placing-end start end all kids from highest rest p none =
    let here = subst (λ (is : List Item). Placing start end all kids from highest is) none p in
    (sym (append-nil kids) ∙ here.placed, omega (arith, here.height))

-- the same, over the values that a step gives
pub Placing-step : (start end : ℕ) (all : List Item) (kids kids' : List Branch)
    (from from' highest highest' : ℕ) (i : Item)
    (rest : List Item) → Placing start end all kids from highest (i ∷ rest)
    → kids' ≡ kids ++ record { gap = i.at - from; tree = i.tree } ∷ [] → from' ≡ end_of i
    → highest' ≡ max highest (height i.tree + 1) → Placing start end all kids' from' highest' rest
Placing-step start end all kids kids' from from' highest highest' i rest p e f g =
    subst (λ (ks : List Branch). Placing start end all ks from' highest' rest) (sym e)
    (subst (λ (n : ℕ). Placing start end all (kids ++ record { gap = i.at - from; tree = i.tree } ∷ []) n
    highest' rest) (sym f)
    (subst (λ (n : ℕ). Placing start end all (kids ++ record { gap = i.at - from; tree = i.tree } ∷ [])
    (end_of i) n rest) (sym g)
    (Placing-more start end all kids from highest i rest p)))
