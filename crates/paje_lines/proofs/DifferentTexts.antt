-- The different items of a list, after one more.
use Rattle.std.proofs.Common.{◌≡◌, List, [], ◌∷◌, ◌++◌, filter, Bool, not, cond, ◌||◌, refl, ◌∙◌}
use Rattle.std.proofs.Common.{ap}
use Rattle.std.specs.List.{list_any}
use Rattle.std.proofs.lemmas.List.Elements.{filter-append}
use mathlib.Core.Bool.{not-not}
use Rattle.list_lemmas.proofs.Filters.{filter_apart}
use Rattle.paje_lines.specs.Found.{distinct_by}

pub different-push : {X : Type 0} (same : X → X → Bool) (xs : List X) (y : X) → distinct_by same
    (xs ++ y ∷ [])
    ≡ distinct_by same xs ++ cond (list_any (λ x. same x y) xs) [] (y ∷ [])
different-push same [] y = refl
different-push same (x ∷ xs) y =
    let later = list_any (λ x. same x y) xs in
    ap (λ ys. x ∷ filter (λ z. not (same x z)) ys) (different-push same xs y)
    ∙ (ap (λ ys. x ∷ ys) (filter-append (λ z. not (same x z)) (distinct_by same xs) (cond later [] (y ∷ [])))
    ∙ (ap (λ ys. x ∷ filter (λ z. not (same x z)) (distinct_by same xs) ++ ys)
    (filter_apart y (λ z. not (same x z)) later)
    ∙ ap (λ b. x ∷ filter (λ z. not (same x z)) (distinct_by same xs) ++ cond (b || later) [] (y ∷ []))
    (not-not (same x y))))
