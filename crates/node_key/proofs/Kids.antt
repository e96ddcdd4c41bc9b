-- Kids as a list of branches.
use Rattle.std.proofs.Common.{◌≡◌, ℕ, ◌+◌, ◌<◌, ◌≤◌, List, [], ◌∷◌, length, get_or, refl, ap}
use Rattle.std.proofs.Common.{arith, Some}
use Rattle.std.proofs.Common.{slice_get, option_map, subst, sym}
use Rattle.std.proofs.lemmas.Option.{slice_get-get_or}
use Rattle.node_key.specs.Tree.{Kids, count, total}
use Rattle.node_key.specs.Branches.{kids_of, branches}
use Rattle.node_key.specs.Items.{end_of, branches_from, FitBetween}
use Rattle.node_key.specs.declared.item.Item.{Item}
use Rattle.node_key.specs.declared.tree.Branch.{Branch}

-- the branches are those that the kids are made of
pub branches-kids_of : (bs : List Branch) → branches (kids_of bs) ≡ bs
branches-kids_of [] = refl
branches-kids_of (b ∷ bs) = ap (λ (rest : List Branch). b ∷ rest) (branches-kids_of bs)

pub count-kids_of : (bs : List Branch) → count (kids_of bs) ≡ length bs
count-kids_of [] = refl
count-kids_of (b ∷ bs) = omega (arith, count-kids_of bs)

pub length-branches_from : (from : ℕ) (is : List Item) → length (branches_from from is) ≡ length is
length-branches_from from [] = refl
length-branches_from from (i ∷ is) = omega (arith, length-branches_from (end_of i) is)

-- items that fit between two times take no more time than is between them
pub total-branches_from : (start end : ℕ) (is : List Item) → FitBetween start end is
    → start + total (kids_of (branches_from start is)) ≤ end
total-branches_from start end [] fit = omega arith
total-branches_from start end (i ∷ is) fit = omega (arith, total-branches_from (end_of i) end is fit.1, fit.0)

-- where items fit between two times, the first is not after the second
pub FitBetween-le : (start end : ℕ) (is : List Item) → FitBetween start end is → start ≤ end
FitBetween-le start end [] fit = fit
FitBetween-le start end (i ∷ is) fit = omega (arith, FitBetween-le (end_of i) end is fit.1, fit.0)

-- what a function that reads the kids needs
pub ruleset kids = (branches-kids_of, count-kids_of)

-- a part of the branch at an index
pub branch_at : {X : Type 0} (part : Branch → X) (bs : List Branch) (k : Kids) (i : ℕ) (b : Branch)
    → kids_of bs ≡ k
    → i < length bs → option_map part (slice_get (branches k) i) ≡ Some (part (get_or bs i b))
branch_at part bs k i b is below =
    subst (λ (l : Kids). option_map part (slice_get (branches l) i) ≡ Some (part (get_or bs i b))) is
    (subst (λ (l : List Branch). option_map part (slice_get l i) ≡ Some (part (get_or bs i b)))
    (sym (branches-kids_of bs)) (ap (option_map part) (slice_get-get_or bs i b below)))
