-- The different items of a list, where the test tells which are the same.
use Rattle.std.proofs.Common.{◌≡◌, List, [], ◌∷◌, Bool, true, false, not, filter}
use Rattle.std.specs.List.{AllByRecursion, list_any}
use Rattle.std.proofs.lemmas.Bool.{not-true}
use Rattle.std.proofs.lemmas.List.Elements.{All-from_recursion}
use Rattle.std.proofs.lemmas.List.Folds.{list_any_none}
use Rattle.list_lemmas.proofs.Distinct.{AreApart, TellsSame, apart_filter, not_same_back}
use Rattle.list_lemmas.proofs.Each.{all_filter, all_mapped, all_passed, none_by_any}
use Rattle.paje_lines.specs.Found.{distinct_by}

-- what holds of all items holds of the different ones
pub distinct_all : {X : Type 0} (same : X → X → Bool) (P : X → Type 0) (xs : List X) → AllByRecursion P xs
    → AllByRecursion P (distinct_by same xs)
distinct_all same P [] all = tt
distinct_all same P (x ∷ xs) all =
    (all.0, all_filter P (λ y. not (same x y)) (distinct_by same xs) (distinct_all same P xs all.1))

-- ---- they differ

pub distinct_apart : {X : Type 0} (same : X → X → Bool) (xs : List X) → AreApart same (distinct_by same xs)
distinct_apart same [] = tt
distinct_apart same (x ∷ xs) = (
  all_mapped (λ y. not (same x y) ≡ true)
      (λ y. same x y ≡ false) (λ y e. not-true (same x y) e) (filter (λ y. not (same x y)) (distinct_by same
      xs)) (all_passed (λ y. not (same x y)) (distinct_by same xs)),
  apart_filter same (λ y. not (same x y)) (distinct_by same xs) (distinct_apart same xs),
)

-- ---- a new one

-- an item that none of a list equals is none of the different ones
pub new_among : {X : Type 0} (same : X → X → Bool) → TellsSame same → (xs : List X) (y : X)
    → list_any (λ x. same x y) xs ≡ false → list_any (same y) (distinct_by same xs) ≡ false
new_among same tells xs y e =
    list_any_none (same y) (distinct_by same xs) (All-from_recursion (λ x. same y x ≡ false)
    (distinct_by same xs) (distinct_all same (λ x. same y x ≡ false) xs
    (all_mapped (λ x. same x y ≡ false) (λ x. same y x ≡ false) (λ x. not_same_back same tells x y) xs
    (none_by_any (λ x. same x y) xs e))))
