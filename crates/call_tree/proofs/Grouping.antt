-- A list under way to its groups.
use Rattle.std.proofs.Common.{◌≡◌, ◌<◌, ◌≤◌, List, [], ◌∷◌, ◌++◌, length, take, drop, refl, sym, ap, subst}
use Rattle.std.proofs.Common.{◌∙◌, arith, All}
use Rattle.std.proofs.Common.{append_assoc, append-nil, take-append-drop, length-take, IsTrue, false}
use Rattle.std.proofs.lemmas.Bool.{false≢true}
use Rattle.std.proofs.lemmas.List.{nil_from_length}
use Rattle.std.proofs.lemmas.List.Elements.{All-take, All-drop}
use Rattle.node_key.specs.Tree.{height}
use Rattle.node_key.specs.Items.{FitBetween}
use Rattle.node_key.specs.declared.item.Item.{Item}
use Rattle.node_key.specs.declared.limits.TheConstants.{HEIGHT_BOUND}
use Rattle.trace_base.specs.declared.limits.TheConstants.{MAX_TIME}
use Rattle.node_key.specs.Bound.{group, grouped}
use Rattle.call_tree.proofs.Chunks.{grouped-some, grouped-none}
use Rattle.call_tree.proofs.Fits.{last_end, FitBetween-parts, FitBetween-lower, FitBetween-upper}
use Rattle.node_key.proofs.Kids.{FitBetween-le}

-- the groups so far and those of the items that are left
pub record Grouping (all groups left : List Item) : Type 0 where
  pub whole : groups ++ grouped left ≡ grouped all
  pub placed : FitBetween 0 MAX_TIME left
  pub low : All (λ i. height i.tree < HEIGHT_BOUND) left

-- what a group needs of the next chunk
pub record IsChunk (c : List Item) : Type 0 where
  pub few : length c ≤ 8
  pub placed : FitBetween 0 MAX_TIME c
  pub low : All (λ i. height i.tree < HEIGHT_BOUND) c

parts : (left : List Item) → FitBetween 0 MAX_TIME left
    → FitBetween 0 (last_end 0 (take 8 left)) (take 8 left) × FitBetween (last_end 0 (take 8 left)) MAX_TIME
    (drop 8 left)
parts left fit =
    FitBetween-parts 0 MAX_TIME (take 8 left) (drop 8 left)
    (subst (λ (l : List Item). FitBetween 0 MAX_TIME l) (sym (take-append-drop 8 left)) fit)

pub Grouping-next : (all groups left c : List Item) → Grouping all groups left → c ≡ take 8 left → IsChunk c
Grouping-next all groups left c g e =
    let fit = parts left g.placed in
    let here : IsChunk (take 8 left) = record {
      few = omega (arith, length-take 8 left);
      placed = FitBetween-upper 0 (last_end 0 (take 8 left)) MAX_TIME (take 8 left)
          (FitBetween-le (last_end 0 (take 8 left)) MAX_TIME (drop 8 left) fit.1) fit.0;
      low = All-take (λ (i : Item). height i.tree < HEIGHT_BOUND) 8 left g.low;
    } in
    subst IsChunk (sym e) here

pub Grouping-more : (all groups groups' left left' c : List Item) → Grouping all groups left → c ≡ take 8 left
    → 0 < length c
    → left' ≡ drop 8 left → groups' ≡ groups ++ group c ∷ [] → Grouping all groups' left'
Grouping-more all groups groups' left left' c g e some f h =
    let nonempty : 0 < length left = omega (arith, ap length e, length-take 8 left) in
    let here : Grouping all (groups ++ group (take 8 left) ∷ []) (drop 8 left) = record {
      whole = append_assoc groups (group (take 8 left) ∷ []) (grouped (drop 8 left))
          ∙ ap (λ (l : List Item). groups ++ l) (sym (grouped-some left nonempty)) ∙ g.whole;
      placed = FitBetween-lower 0 (last_end 0 (take 8 left)) MAX_TIME (drop 8 left) (omega arith)
          (parts left g.placed).1;
      low = All-drop (λ (i : Item). height i.tree < HEIGHT_BOUND) 8 left g.low;
    } in
    subst (λ (l : List Item). Grouping all groups' l) (sym f)
    (subst (λ (l : List Item). Grouping all l (drop 8 left))
    (sym (h ∙ ap (λ (l : List Item). groups ++ group l ∷ []) e)) here)

pub Grouping-end : (all groups left c : List Item) → Grouping all groups left → c ≡ take 8 left → c ≡ []
    → groups ≡ grouped all
Grouping-end all groups left c g e none =
    let empty : left ≡ [] = nil_from_length left
    (omega (arith, ap length e, ap length none, length-take 8 left)) in
    sym (append-nil groups) ∙ ap (λ (l : List Item). groups ++ l) (sym (grouped-none left empty)) ∙ g.whole

-- a chunk that isn't empty has an item
pub has_items : (c : List Item) → (c ≡ [] → IsTrue false) → 0 < length c
has_items [] h = absurd (false≢true (h refl))
has_items (i ∷ is) h = omega arith
