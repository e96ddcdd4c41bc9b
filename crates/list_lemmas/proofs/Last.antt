-- The last item, those behind the last that passes, and one item more.
use Rattle.std.proofs.Common.{Bool, List, None, Option, Some, [], ap, arith, cond, drop, false, filter}
use Rattle.std.proofs.Common.{length, not, refl, true, ◌++◌, ◌+◌, ◌-◌, ◌∙◌, ◌∷◌, ◌≡◌}
use Rattle.std.proofs.lemmas.List.{append-nil, drop-append-le, drop_all, length-append, reverse-append}
use Rattle.std.proofs.lemmas.List.Elements.{filter-append}
use Rattle.std.specs.List.{after_last, last_or, prefix_len, suffix_len}

last_or-push : {X : Type 0} (o : Option X) (xs : List X) (y : X) → last_or o (xs ++ y ∷ []) ≡ Some y
last_or-push o [] y = refl
last_or-push o (x ∷ xs) y = last_or-push (Some x) xs y

pub last-push : {X : Type 0} (xs : List X) (y : X) → last_or None (xs ++ y ∷ []) ≡ Some y
last-push xs y = last_or-push None xs y

pub last-kept : {X : Type 0} (p : X → Bool) (xs : List X) (x : X) → p x ≡ true
    → last_or None (filter p (xs ++ x ∷ [])) ≡ Some x
last-kept p xs x passes =
    ap (last_or None) (filter-append p xs (x ∷ []) ∙ ap (λ b. filter p xs ++ cond b (x ∷ []) []) passes) ∙
    last_or-push None (filter p xs) x

pub last-more : {X : Type 0} (p : X → Bool) (xs : List X) (x : X) → p x ≡ false
    → last_or None (filter p (xs ++ x ∷ [])) ≡ last_or None (filter p xs)
last-more p xs x fails =
    ap (last_or None) (filter-append p xs (x ∷ []) ∙ ap (λ b. filter p xs ++ cond b (x ∷ []) []) fails ∙
    append-nil (filter p xs))

pub after_last-kept : {X : Type 0} (p : X → Bool) (xs : List X) (x : X) → p x ≡ true
    → after_last p (xs ++ x ∷ []) ≡ []
after_last-kept p xs x passes =
    let none : suffix_len (λ y. not (p y)) (xs ++ x ∷ []) ≡ 0 =
    ap (prefix_len (λ y. not (p y))) (reverse-append xs (x ∷ [])) ∙ ap
    (λ b. cond (not b) (1 + suffix_len (λ y. not (p y)) xs) 0) passes in
    drop_all (length (xs ++ x ∷ []) - suffix_len (λ y. not (p y)) (xs ++ x ∷ [])) (xs ++ x ∷ [])
    (omega (arith, none))

pub after_last-more : {X : Type 0} (p : X → Bool) (xs : List X) (x : X) → p x ≡ false
    → after_last p (xs ++ x ∷ []) ≡ after_last p xs ++ x ∷ []
after_last-more p xs x fails =
    let tail = suffix_len (λ y. not (p y)) xs in
    let one : suffix_len (λ y. not (p y)) (xs ++ x ∷ []) ≡ 1 + tail =
    ap (prefix_len (λ y. not (p y))) (reverse-append xs (x ∷ [])) ∙ ap (λ b. cond (not b) (1 + tail) 0) fails
    in
    let count : length (xs ++ x ∷ []) ≡ length xs + 1 = length-append xs (x ∷ []) in
    let at : length (xs ++ x ∷ []) - suffix_len (λ y. not (p y)) (xs ++ x ∷ []) ≡ length xs - tail =
    omega (arith, one, count) in
    ap (λ n. drop n (xs ++ x ∷ [])) at ∙ drop-append-le (length xs - tail) xs (x ∷ []) (omega arith)
