-- What holds of each item of a list, where it is folded, filtered or made of different items.
use Rattle.std.proofs.Common.{◌≡◌, Bool, true, not, List, [], ◌∷◌}
use Rattle.std.proofs.Common.{filter}
use Rattle.std.proofs.Common.{subst}
use Rattle.std.specs.Prelude.{All}
use Rattle.std.proofs.lemmas.List.Elements.{All-cons, All-head, All-tail, All-nil}
use Rattle.list_lemmas.proofs.All.{All-but_equal}
use Rattle.paje_lines.specs.Found.{distinct_by}

-- ---- different items

pub All-from_distinct : {X : Type 0} (same : X → X → Bool) → ((x y : X) → same x y ≡ true → x ≡ y)
    → (P : X → Type 0) (xs : List X) → All P (distinct_by same xs) → All P xs
All-from_distinct same equal P [] all = All-nil P
All-from_distinct same equal P (x ∷ xs) all =
    let kept : List _ = filter (λ y. not (same x y)) (distinct_by same xs) in
    let first : P x = All-head P x kept all in
    All-cons P x xs first (All-from_distinct same equal P xs (All-but_equal (same x) P (distinct_by same xs)
    (λ y is. subst P (equal x y is) first) (All-tail P x kept all)))
