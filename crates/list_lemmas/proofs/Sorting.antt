-- A stable sort gives one list: the items put in order one after the other, each after those that it doesn't
-- come before. `lt` is the test that an item comes before another.
use Rattle.std.proofs.Common.{Bool, List, [], ap, append-nil, append_assoc, arith, cond, false, filter, fold}
use Rattle.std.proofs.Common.{get_or, inl, inr, length, not, refl, suc, sym, true, ℕ, ◌&&◌, ◌++◌, ◌<◌, ◌∙◌}
use Rattle.std.proofs.Common.{◌∷◌, ◌≡◌, ◌≤◌}
use Rattle.std.proofs.lemmas.Bool.{and_parts, cases_Bool, cond-true, cond_both, not-true, true≢false}
use Rattle.std.proofs.lemmas.Fn.{always_returns_same}
use Rattle.std.proofs.lemmas.List.Elements.{filter-append}
use Rattle.std.proofs.lemmas.List.Sorted.{ranks_by, sorted_far}
use Rattle.std.specs.Cmp.{IsStrictWeakOrder, IsTotalOrder}
use Rattle.std.specs.Fn.{Called}
use Rattle.std.specs.List.{AllByRecursion}
use Rattle.std.specs.List.Sorted.{IsSortedBy, IsSortedByKeyClosure, IsStableBy, IsStableByKeyClosure, ties}
use Rattle.std.specs.Ordering.{is_lt}
use Rattle.std.specs.declared.cmp.Ordering.{Ordering}
use denote.Param.Members.{Mut}
use denote.Ref.{Bor}
use mathlib.Core.Bool.{and-false}
use Rattle.list_lemmas.proofs.Each.{all_append, all_by_index, all_filter, all_mapped, all_passed}
use Rattle.list_lemmas.proofs.Filters.{filter-cons, filter_filter_none, filter_filter_same, filter_none}
use Rattle.list_lemmas.proofs.Fronts.{cons_head, cons_tail}

-- no item comes before one that stands before it
abbrev pub Rises : {X : Type 0} → (X → X → Bool) → List X → Type 0
Rises lt [] = Unit {0}
Rises lt (x ∷ xs) = AllByRecursion (λ y. lt y x ≡ false) xs × Rises lt xs

-- the item put into a list in order, after those that it doesn't come before
abbrev put_by : {X : Type 0} → (X → X → Bool) → X → List X → List X
put_by lt m xs = filter (λ n. not (lt m n)) xs ++ m ∷ filter (lt m) xs

rises_by_index : {X : Type 0} (lt : X → X → Bool) (xs : List X)
    → ((i j : ℕ) (d : X) → i ≤ j → j < length xs → lt (get_or xs j d) (get_or xs i d) ≡ false) → Rises lt xs
rises_by_index lt [] h = tt
rises_by_index lt (x ∷ xs) h = (
  all_by_index (λ y. lt y x ≡ false) xs
      (λ k l d. h 0 (suc k) d (omega arith) (omega arith)),
  rises_by_index lt xs
      (λ i j d l k. h (suc i) (suc j) d (omega arith) (omega arith)),
)

rises_from_sorted : {X : Type 0} (lt : X → X → Bool) → IsStrictWeakOrder lt → (xs : List X)
    → IsSortedBy lt xs → Rises lt xs
rises_from_sorted lt o xs up = rises_by_index lt xs (sorted_far lt o xs up)

rises_filter : {X : Type 0} (lt : X → X → Bool) (p : X → Bool) (xs : List X) → Rises lt xs
    → Rises lt (filter p xs)
rises_filter lt p [] h = tt
rises_filter lt p (x ∷ xs) h =
    cond_both (p x) (x ∷ filter p xs) (filter p xs) (Rises lt)
    (λ e. (all_filter (λ y. lt y x ≡ false) p xs h.0, rises_filter lt p xs h.1))
    (λ e. rises_filter lt p xs h.1)

rises_append : {X : Type 0} (lt : X → X → Bool) (xs ys : List X) → Rises lt xs → Rises lt ys
    → AllByRecursion (λ x. AllByRecursion (λ y. lt y x ≡ false) ys) xs → Rises lt (xs ++ ys)
rises_append lt [] ys h k l = k
rises_append lt (x ∷ xs) ys h k l = (
  all_append (λ y. lt y x ≡ false) xs ys h.0 l.0,
  rises_append lt xs ys h.1
      k l.1,
)

not_before_itself : {X : Type 0} (lt : X → X → Bool) → IsStrictWeakOrder lt → (x : X) → lt x x ≡ false
not_before_itself lt o x = elim (cases_Bool (lt x x)) [ inl e ↦ o.one_way x x e | inr e ↦ e ]

ties_parts : {X : Type 0} (lt : X → X → Bool) (x y : X) → ties lt x y ≡ true → (lt x y ≡ false)
    × (lt y x ≡ false)
ties_parts lt x y h = let both = and_parts (not (lt x y)) (not (lt y x)) h
    in (not-true (lt x y) both.0, not-true (lt y x) both.1)

ties_from : {X : Type 0} (lt : X → X → Bool) (x y : X) → lt x y ≡ false → lt y x ≡ false → ties lt x y ≡ true
ties_from lt x y h k = ap (λ (b : Bool). not b && not (lt y x)) h ∙ ap (λ (b : Bool). not b) k

apart_below : {X : Type 0} (lt : X → X → Bool) (x y : X) → lt x y ≡ true → ties lt x y ≡ false
apart_below lt x y h = ap (λ (b : Bool). not b && not (lt y x)) h

-- what is at least z, which is above x, is above x
above_too : {X : Type 0} (lt : X → X → Bool) → IsStrictWeakOrder lt → (x z w : X) → lt x z ≡ true
    → lt w z ≡ false → lt x w ≡ true
above_too lt o x z w h k = elim (cases_Bool (lt x w))
    [ inl e ↦ e | inr e ↦ absurd (true≢false (sym h ∙ o.chain x w z e k)) ]

rises_put : {X : Type 0} (lt : X → X → Bool) → IsStrictWeakOrder lt → (m : X) (xs : List X) → Rises lt xs
    → Rises lt (put_by lt m xs)
rises_put {X} lt o m xs h =
    let behind : AllByRecursion (λ y. lt y m ≡ false) (filter (lt m) xs) = all_mapped (λ y. lt m y ≡ true)
    (λ y. lt y m ≡ false) (λ y k. o.one_way m y k) (filter (lt m) xs) (all_passed (lt m) xs) in
    let front : AllByRecursion (λ n. lt m n ≡ false) (filter (λ n. not (lt m n)) xs) =
    all_mapped (λ n. not (lt m n) ≡ true) (λ n. lt m n ≡ false) (λ n k. not-true (lt m n) k)
    (filter (λ n. not (lt m n)) xs) (all_passed (λ n. not (lt m n)) xs) in
    rises_append lt (filter (λ n. not (lt m n)) xs) (m ∷ filter (lt m) xs)
    (rises_filter lt (λ n. not (lt m n)) xs h)
    (behind, rises_filter lt (lt m) xs h)
    (all_mapped (λ n. lt m n ≡ false) (λ n. AllByRecursion (λ y. lt y n ≡ false) (m ∷ filter (lt m) xs))
    (λ n k. (
      k,
      all_mapped (λ y. lt y m ≡ false) (λ y. lt y n ≡ false) (λ y l. o.chain y m n l k)
          (filter (lt m) xs) behind,
    ))
    (filter (λ n. not (lt m n)) xs) front)

stable_put : {X : Type 0} (lt : X → X → Bool) → IsStrictWeakOrder lt → (x m : X) (xs : List X)
    → filter (ties lt x) (put_by lt m xs) ≡ filter (ties lt x) xs ++ filter (ties lt x) (m ∷ [])
stable_put {X} lt o x m xs =
    filter-append (ties lt x) (filter (λ n. not (lt m n)) xs) (m ∷ filter (lt m) xs) ∙ whole
  where
    -- where m comes before none of those that tie with x
    low : ((n : X) → ties lt x n ≡ true → lt m n ≡ false) → (b : Bool)
        → filter (ties lt x) (filter (λ n. not (lt m n)) xs)
        ++ cond b (m ∷ filter (ties lt x) (filter (lt m) xs)) (filter (ties lt x) (filter (lt m) xs)) ≡ filter
        (ties lt x) xs ++ cond b (m ∷ []) []
    low h b =
        ap (λ (ys : List X). ys ++ cond b (m ∷ filter (ties lt x) (filter (lt m) xs))
        (filter (ties lt x) (filter (lt m) xs)))
        (filter_filter_same (ties lt x) (λ n. not (lt m n)) (λ n k. ap not (h n k)) xs)
        ∙ ap (λ (ys : List X). filter (ties lt x) xs ++ cond b (m ∷ ys) ys)
        (filter_filter_none (ties lt x) (lt m) h xs)

    -- where it comes before all of them
    high : ((n : X) → ties lt x n ≡ true → lt m n ≡ true) → (b : Bool) → b ≡ false
        → filter (ties lt x) (filter (λ n. not (lt m n)) xs)
        ++ cond b (m ∷ filter (ties lt x) (filter (lt m) xs)) (filter (ties lt x) (filter (lt m) xs)) ≡ filter
        (ties lt x) xs ++ cond b (m ∷ []) []
    high h true e = absurd (true≢false e)
    high h false e =
        ap (λ (ys : List X). ys ++ filter (ties lt x) (filter (lt m) xs))
        (filter_filter_none (ties lt x) (λ n. not (lt m n)) (λ n k. ap not (h n k)) xs)
        ∙ filter_filter_same (ties lt x) (lt m) h xs
        ∙ sym (append-nil (filter (ties lt x) xs))

    whole : filter (ties lt x) (filter (λ n. not (lt m n)) xs)
        ++ cond (ties lt x m) (m ∷ filter (ties lt x) (filter (lt m) xs))
        (filter (ties lt x) (filter (lt m) xs)) ≡ filter (ties lt x) xs ++ cond (ties lt x m) (m ∷ []) []
    whole =
        elim (cases_Bool (lt m x)) [
          | inl before ↦ high (λ n k. above_too lt o m x n before (ties_parts lt x n k).1) (ties lt x m)
              (ap (λ (b : Bool). not (lt x m) && not b) before ∙ and-false (not (lt x m)))
          | inr later ↦ low (λ n k. o.chain m x n later (ties_parts lt x n k).0) (ties lt x m)
        ]

stable_fold : {X : Type 0} (lt : X → X → Bool) → IsStrictWeakOrder lt → (x : X) (ms xs : List X)
    → filter (ties lt x) (fold (λ table m. put_by lt m table) xs ms) ≡ filter (ties lt x) xs
    ++ filter (ties lt x) ms
stable_fold lt o x [] xs = sym (append-nil (filter (ties lt x) xs))
stable_fold {X} lt o x (m ∷ ms) xs =
    stable_fold lt o x ms (put_by lt m xs)
    ∙ ap (λ (ys : List X). ys ++ filter (ties lt x) ms) (stable_put lt o x m xs)
    ∙ append_assoc (filter (ties lt x) xs) (filter (ties lt x) (m ∷ [])) (filter (ties lt x) ms)
    ∙ ap (λ (ys : List X). filter (ties lt x) xs ++ ys) (filter-cons (ties lt x) m ms)

rises_fold : {X : Type 0} (lt : X → X → Bool) → IsStrictWeakOrder lt → (ms xs : List X) → Rises lt xs
    → Rises lt (fold (λ table m. put_by lt m table) xs ms)
rises_fold lt o [] xs h = h
rises_fold lt o (m ∷ ms) xs h = rises_fold lt o ms (put_by lt m xs) (rises_put lt o m xs h)

-- the first item stays among those that tie with it
first_stays : {X : Type 0} (lt : X → X → Bool) → IsStrictWeakOrder lt → (y : X) (ys : List X)
    → filter (ties lt y) (y ∷ ys) ≡ y ∷ filter (ties lt y) ys
first_stays lt o y ys = cond-true (ties lt y y) (y ∷ filter (ties lt y) ys) (filter (ties lt y) ys)
    (ties_from lt y y (not_before_itself lt o y) (not_before_itself lt o y))

-- none ties with an item that comes before the first
none_tie_below : {X : Type 0} (lt : X → X → Bool) → IsStrictWeakOrder lt → (y z : X) (zs : List X)
    → lt y z ≡ true → Rises lt (z ∷ zs) → filter (ties lt y) (z ∷ zs) ≡ []
none_tie_below lt o y z zs h up =
    filter_none (ties lt y) (z ∷ zs) (
      apart_below lt y z h,
      all_mapped (λ w. lt w z ≡ false)
          (λ w. ties lt y w ≡ false) (λ w k. apart_below lt y w (above_too lt o y z w h k)) zs up.0,
    )

tails_tie : {X : Type 0} (lt : X → X → Bool) (x y : X) (ys zs : List X) → filter (ties lt x) (y ∷ ys) ≡ filter
    (ties lt x) (y ∷ zs) → filter (ties lt x) ys ≡ filter (ties lt x) zs
tails_tie {X} lt x y ys zs h = go (ties lt x y) h
  where
    go : (b : Bool) → cond b (y ∷ filter (ties lt x) ys) (filter (ties lt x) ys) ≡ cond b
        (y ∷ filter (ties lt x) zs) (filter (ties lt x) zs) → filter (ties lt x) ys ≡ filter (ties lt x) zs
    go true k = cons_tail y y (filter (ties lt x) ys) (filter (ties lt x) zs) k
    go false k = k

-- two lists in order that have the same items at each tie, in one order, are one list
pub one_in_order : {X : Type 0} (lt : X → X → Bool) → IsStrictWeakOrder lt → (ys zs : List X) → Rises lt ys
    → Rises lt zs → ((x : X) → filter (ties lt x) ys ≡ filter (ties lt x) zs) → ys ≡ zs
one_in_order lt o [] [] up vp same = refl
one_in_order lt o [] (z ∷ zs) up vp same = let e = same z ∙ first_stays lt o z zs in cc
one_in_order lt o (y ∷ ys) [] up vp same = let e = sym (same y) ∙ first_stays lt o y ys in cc
one_in_order {X} lt o (y ∷ ys) (z ∷ zs) up vp same =
    elim (cases_Bool (lt y z)) [
      | inl e ↦ (let k = sym (first_stays lt o y ys) ∙ same y ∙ none_tie_below lt o y z zs e vp in cc)
      | inr e ↦
          elim (cases_Bool (lt z y)) [
            | inl f ↦ (let k = sym (first_stays lt o z zs) ∙ sym (same z) ∙ none_tie_below lt o z y ys f up
                in cc)
            | inr f ↦ (
                let here : filter (ties lt y) (z ∷ zs) ≡ z ∷ filter (ties lt y) zs = cond-true (ties lt y z)
                (z ∷ filter (ties lt y) zs) (filter (ties lt y) zs) (ties_from lt y z e f) in
                let first : z ≡ y = cons_head z y (filter (ties lt y) zs) (filter (ties lt y) ys)
                (sym here ∙ sym (same y) ∙ first_stays lt o y ys) in
                let rest : (x : X) → filter (ties lt x) ys ≡ filter (ties lt x) zs = λ (x : X). tails_tie lt x
                y ys zs (same x ∙ ap (λ (w : X). filter (ties lt x) (w ∷ zs)) first) in
                ap (λ (ws : List X). y ∷ ws) (one_in_order lt o ys zs up.1 vp.1 rest) ∙ ap (λ (w : X). w ∷ zs)
                (sym first))
          ]
    ]

-- what a stable sort ensures of ms gives the items of ms put in order one after the other
stable_sort_is : {X : Type 0} (lt : X → X → Bool) → IsStrictWeakOrder lt → (ms ys : List X)
    → IsSortedBy lt ys → IsStableBy lt ms ys → ys ≡ fold (λ table m. put_by lt m table) [] ms
stable_sort_is lt o ms ys up stable =
    one_in_order lt o ys (fold (λ table m. put_by lt m table) [] ms) (rises_from_sorted lt o ys up)
    (rises_fold lt o ms [] tt) (λ x. stable x ∙ sym (stable_fold lt o x ms []))

-- the same of `sort_by_key`, where each call of the closure gives the item's key
pub stable_sort_by_key_is : {X K : Type 0} (key : X → K) (cmp : K → K → Ordering) → IsTotalOrder cmp
    → {F : Type 0} {g : Mut F (Bor X × Unit {0}) K} {f : F} (ms ys : List X) → IsSortedByKeyClosure g cmp f ys
    → IsStableByKeyClosure g cmp f ms ys → ((a : Bor X × Unit {0}) (r : K) (f' : F) → Called g f a r f'
    → (r ≡ key a.0.now) × (f' ≡ f)) → ys ≡ fold
    (λ table m. put_by (λ x y. is_lt (cmp (key x) (key y))) m table) [] ms
stable_sort_by_key_is key cmp o {g = g} {f = f} ms ys up stable h =
    stable_sort_is (λ x y. is_lt (cmp (key x) (key y))) (ranks_by o key) ms ys
    (up key (always_returns_same g (λ a r. r ≡ key a.0.now) f h))
    (stable key (always_returns_same g (λ a r. r ≡ key a.0.now) f h))
