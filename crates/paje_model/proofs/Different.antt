-- The different items of a list: one more, and what is made of each.
use Rattle.std.proofs.Common.{◌≡◌, ℕ, Bool, true, false, not, cond, ◌||◌, List, [], ◌∷◌, ◌++◌}
use Rattle.std.proofs.Common.{filter, position, Option, is_some, refl}
use Rattle.std.proofs.Common.{sym, ap, ◌∙◌}
use Rattle.std.specs.List.{list_any}
use Rattle.list_lemmas.proofs.Distinct.{TellsSame, same_swap}
use Rattle.list_lemmas.proofs.Found.{any-agree, any-filter, any-place}
use Rattle.paje_lines.specs.Found.{distinct_by}
use Rattle.paje_lines.proofs.DifferentTexts.{different-push}

-- ---- whether an item passes

pub any-distinct : {X : Type 0} (same : X → X → Bool) → TellsSame same → (y : X) (xs : List X)
    → list_any (same y) (distinct_by same xs) ≡ list_any (same y) xs
any-distinct same tells y [] = refl
any-distinct same tells y (x ∷ xs) = by (same y x) refl (any-distinct same tells y xs)
  where
    by : (b : Bool) → same y x ≡ b → list_any (same y) (distinct_by same xs) ≡ list_any (same y) xs
        → (b || list_any (same y) (filter (λ z. not (same x z)) (distinct_by same xs)))
        ≡ (b || list_any (same y) xs)
    by true e later = refl
    by false e later = any-filter (same y) (λ z. not (same x z)) (λ z is. ap not (ap (same x)
        (sym ((tells y z).0 is)) ∙ (same_swap same tells x y ∙ e))) (distinct_by same xs) ∙ later

-- ---- one more item

pub distinct-next : {X : Type 0} (same : X → X → Bool) → TellsSame same → (xs : List X) (y : X) (o : Option ℕ)
    → position (same y) (distinct_by same xs) ≡ o
    → distinct_by same (xs ++ y ∷ []) ≡ distinct_by same xs ++ cond (is_some o) [] (y ∷ [])
distinct-next same tells xs y o is =
    different-push same xs y ∙ ap (λ b. distinct_by same xs ++ cond b [] (y ∷ []))
    (any-agree (λ x. same x y) (same y) (λ x. same_swap same tells x y) xs
    ∙ (sym (any-distinct same tells y xs) ∙ (any-place (same y) (distinct_by same xs) ∙ ap is_some is)))
