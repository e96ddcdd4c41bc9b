-- Lists of which no two items are the same by a test.
use Rattle.std.proofs.Common.{Bool, List, Some, [], ap, arith, cond, eqb, false, filter, inl, inr, length}
use Rattle.std.proofs.Common.{map, nat_eq, not, refl, set, slice_get, subst, suc, sym, true, zero, ℕ, ◌&&◌}
use Rattle.std.proofs.Common.{◌++◌, ◌+◌, ◌<◌, ◌∙◌, ◌∷◌, ◌≡◌, ◌≤◌}
use Rattle.std.proofs.lemmas.Bool.{cases_eq, cond-false, cond-true, cond_both, eq-eqb, false_from_ne_true}
use Rattle.std.proofs.lemmas.Bool.{not_from_false, not_from_true, true≢false}
use Rattle.std.proofs.lemmas.Option.{none-some, same_Some}
use Rattle.std.specs.Bool.{Decides}
use Rattle.std.specs.Cmp.{IsEquivalence}
use Rattle.std.specs.List.{AllByRecursion, IsDistinct, position_or_len}
use Rattle.std.specs.Prelude.{count_by}
use Rattle.list_lemmas.proofs.Booleans.{one_if}
use Rattle.list_lemmas.proofs.Each.{all_at, all_filter, all_mapped, all_second, all_unmap}
use Rattle.list_lemmas.proofs.Filters.{count_by-never, filter_every}
use Rattle.list_lemmas.proofs.Numbers.{not_eqb}

-- the test tells whether two items are the same
abbrev pub TellsSame : {X : Type 0} → (X → X → Bool) → Type 0
TellsSame {X} same = (x y : X) → Decides (same x y) (x ≡ y)

-- none is the same as one before it
abbrev pub AreApart : {X : Type 0} → (X → X → Bool) → List X → Type 0
AreApart same [] = Unit {0}
AreApart same (x ∷ xs) = AllByRecursion (λ y. same x y ≡ false) xs × AreApart same xs

pub apart_filter : {X : Type 0} (same : X → X → Bool) (p : X → Bool) (xs : List X) → AreApart same xs
    → AreApart same (filter p xs)
apart_filter same p [] apart = tt
apart_filter same p (x ∷ xs) apart =
    cond_both (p x) (x ∷ filter p xs) (filter p xs) (AreApart same)
    (λ e. (all_filter (λ y. same x y ≡ false) p xs apart.0, apart_filter same p xs apart.1))
    (λ e. apart_filter same p xs apart.1)

-- an item isn't found again behind itself
not_again : {X : Type 0} (same : X → X → Bool) → TellsSame same → (x y : X) (xs : List X) (k : ℕ)
    → AllByRecursion (λ y. same x y ≡ false) xs → Some x ≡ Some y → slice_get xs k ≡ Some y → ⊥
not_again same tells x y xs k apart first later = true≢false (sym ((tells x y).1 (same_Some x y first))
    ∙ all_at (λ y. same x y ≡ false) xs k y apart later)

-- each stands at one place
pub one_place : {X : Type 0} (same : X → X → Bool) → TellsSame same → (xs : List X) → AreApart same xs
    → (i j : ℕ) (x : X) → slice_get xs i ≡ Some x → slice_get xs j ≡ Some x → i ≡ j
one_place same tells [] apart i j x at other = absurd (none-some x at)
one_place same tells (y ∷ ys) apart zero zero x at other = refl
one_place same tells (y ∷ ys) apart zero (suc j) x at other =
    absurd (not_again same tells y x ys j apart.0 at other)
one_place same tells (y ∷ ys) apart (suc i) zero x at other =
    absurd (not_again same tells y x ys i apart.0 other at)
one_place same tells (y ∷ ys) apart (suc i) (suc j) x at other =
    ap suc (one_place same tells ys apart.1 i j x at other)

pub not_same_back : {X : Type 0} (same : X → X → Bool) → TellsSame same → (x y : X) → same x y ≡ false
    → same y x ≡ false
not_same_back same tells x y e = false_from_ne_true (same y x)
    (λ is. true≢false (sym ((tells x y).1 (sym ((tells y x).0 is))) ∙ e))

pub same_swap : {X : Type 0} (same : X → X → Bool) → TellsSame same → (x y : X) → same x y ≡ same y x
same_swap same tells x y = by (same x y) (same y x) refl refl
  where
    by : (a b : Bool) → same x y ≡ a → same y x ≡ b → a ≡ b
    by true true e f = refl
    by false false e f = refl
    by true false e f = absurd (true≢false (sym ((tells y x).1 (sym ((tells x y).0 e))) ∙ f))
    by false true e f = absurd (true≢false (sym ((tells x y).1 (sym ((tells y x).0 f))) ∙ e))

pub same_equivalence : {X : Type 0} (same : X → X → Bool) → TellsSame same → IsEquivalence same
same_equivalence same tells = record {
  refl = λ x. (tells x x).1 refl;
  symm = same_swap same tells;
  congr = λ x y z e. ap (λ x. same x z) ((tells x y).0 e);
}

pub distinct_from_apart : {X : Type 0} (same : X → X → Bool) (xs : List X) → AreApart same xs
    → IsDistinct same xs
unfolding IsDistinct
distinct_from_apart same [] apart = tt
distinct_from_apart same (x ∷ xs) apart = (apart.0, distinct_from_apart same xs apart.1)

-- of items that differ, none before one is the same
pub apart_before : {X Y : Type 0} (same : Y → Y → Bool) → TellsSame same → (f : X
    → Y) (front : List X) (x : X)
    (back : List X) → AreApart same (map f (front ++ x ∷ back))
    → AllByRecursion (λ y. same (f x) (f y) ≡ false) front
apart_before same tells f [] x back apart = tt
apart_before same tells f (y ∷ front) x back apart = (
  false_from_ne_true (same (f x) (f y)) (λ is. true≢false (sym ((tells (f y) (f x)).1
      (sym ((tells (f x) (f y)).0 is)))
      ∙ (all_second (λ z. same (f y) (f z) ≡ false) front (x ∷ back)
      (all_unmap (λ z. same (f y) z ≡ false) f (front ++ x ∷ back) apart.0)).0)),
  apart_before same tells f front x back apart.1,
)

-- nor is one behind it
pub apart_behind : {X Y : Type 0} (same : Y → Y → Bool) (f : X → Y) (front : List X) (x : X) (back : List X)
    → AreApart same (map f (front ++ x ∷ back)) → AllByRecursion (λ y. same (f x) (f y) ≡ false) back
apart_behind same f [] x back apart = all_unmap (λ z. same (f x) z ≡ false) f back apart.0
apart_behind same f (y ∷ front) x back apart = apart_behind same f front x back apart.1

-- none but x is at another place than the first
apart_by : {X : Type 0} (same : X → X → Bool) → TellsSame same → (x : X) (xs : List X)
    → ((j : ℕ) → slice_get xs j ≡ Some x → ⊥) → AllByRecursion (λ y. same x y ≡ false) xs
apart_by same tells x [] never = tt
apart_by same tells x (y ∷ ys) never = (
  false_from_ne_true (same x y) (λ is. never 0 (ap Some (sym ((tells x y).0 is)))),
  apart_by same tells x ys (λ j at. never (suc j) at),
)

-- items of which no two are the same
pub apart_from_places : {X : Type 0} (same : X → X → Bool) → TellsSame same → (xs : List X)
    → ((i j : ℕ) (x : X) → slice_get xs i ≡ Some x → slice_get xs j ≡ Some x → i ≡ j) → AreApart same xs
apart_from_places same tells [] one = tt
apart_from_places same tells (x ∷ xs) one = (
  apart_by same tells x xs (λ j at. omega (arith, one 0 (suc j) x refl at)),
  apart_from_places same tells xs (λ i j y at other. omega (arith, one (suc i) (suc j) y at other)),
)

map_others : {X Y : Type 0} (p : X → Bool) (f g : X → Y) → ((x : X) → p x ≡ false → g x ≡ f x) → (xs : List X)
    → AllByRecursion (λ x. p x ≡ false) xs → map g xs ≡ map f xs
map_others p f g same [] all = refl
map_others p f g same (x ∷ xs) all = ap (λ y. y ∷ map g xs) (same x all.0) ∙ ap (λ ys. f x ∷ ys)
    (map_others p f g same xs all.1)

pub map_one : {X Y : Type 0} (same : X → X → Bool) → TellsSame same → (f g : X → Y) (y : X)
    → ((x : X) → same y x ≡ false → g x ≡ f x) → (xs : List X) → AreApart same xs
    → map g xs ≡ set (map f xs) (position_or_len (same y) xs) (g y)
map_one same tells f g y others [] apart = refl
map_one same tells f g y others (x ∷ xs) apart = by (same y x) refl (map_one same tells f g y others xs
    apart.1)
  where
    by : (b : Bool) → same y x ≡ b → map g xs ≡ set (map f xs) (position_or_len (same y) xs) (g y)
        → g x ∷ map g xs ≡ set (f x ∷ map f xs) (cond (not b) (1 + position_or_len (same y) xs) 0) (g y)
    by true e later =
        let is : y ≡ x = (tells y x).0 e in
        ap (λ z. g z ∷ map g xs) (sym is) ∙ ap (λ ys. g y ∷ ys) (map_others (same y) f g others xs
        (subst (λ z. AllByRecursion (λ w. same z w ≡ false) xs) (sym is) apart.0))
    by false e later =
        let one : suc (position_or_len (same y) xs) ≡ 1 + position_or_len (same y) xs = omega arith in
        ap (λ z. z ∷ map g xs) (others x e) ∙ (ap (λ ys. f x ∷ ys) later
        ∙ ap (λ n. set (f x ∷ map f xs) n (g y)) one)

pub apart_counted : (n : ℕ) (xs : List ℕ) → AreApart nat_eq xs
    → length xs ≤ length (filter (λ y. not (nat_eq n y)) xs) + 1
apart_counted n [] apart = omega arith
apart_counted n (x ∷ xs) apart =
    elim (cases_eq n x) [
      | inl same ↦ (let rest : filter (λ y. not (nat_eq n y)) xs ≡ xs =
          filter_every (λ y. not (nat_eq n y)) xs
          (all_mapped (λ y. nat_eq x y ≡ false) (λ y. not (nat_eq n y) ≡ true)
          (λ y e. not_from_false (nat_eq n y) (subst (λ z. nat_eq z y ≡ false) (sym same) e)) xs apart.0) in
          let gone : filter (λ y. not (nat_eq n y)) (x ∷ xs) ≡ filter (λ y. not (nat_eq n y)) xs =
          cond-false (not (nat_eq n x)) _ _ (not_from_true (nat_eq n x) (eq-eqb n x same)) in
          omega (arith, ap length gone, ap length rest))
      | inr ne ↦ (let stays : filter (λ y. not (nat_eq n y)) (x ∷ xs)
          ≡ x ∷ filter (λ y. not (nat_eq n y)) xs =
          cond-true (not (nat_eq n x)) _ _ (not_eqb n x ne) in
          omega (arith, ap length stays, apart_counted n xs apart.1))
    ]

pub below_rest : (n : ℕ) (xs : List ℕ) → AllByRecursion (λ x. x < suc n) xs
    → AllByRecursion (λ x. x < n) (filter (λ y. not (nat_eq n y)) xs)
below_rest n [] all = tt
below_rest n (x ∷ xs) all =
    cond_both (not (nat_eq n x)) (x ∷ filter (λ y. not (nat_eq n y)) xs) (filter (λ y. not (nat_eq n y)) xs)
    (AllByRecursion (λ x. x < n))
    (λ e. (
      elim (cases_eq n x) [
        | inl same ↦ absurd (true≢false (sym e ∙ not_from_true (nat_eq n x) (eq-eqb n x same)))
        | inr ne ↦ (let first : x < suc n = all.0 in omega (arith, ne, first))
      ],
      below_rest n xs all.1,
    ))
    (λ e. below_rest n xs all.1)

-- no number stands twice in the list
abbrev pub EachOnce : List ℕ → Type 0
EachOnce xs = (x : ℕ) → count_by (eqb x) xs ≤ 1

-- where each number stands once, at most one passes the test for a number
pub once_more : (b : Bool) (x : ℕ) (xs : List ℕ) → EachOnce xs → count_by (λ y. b && eqb x y) xs ≤ one_if b
once_more true x xs once = once x
once_more false x xs once = omega (arith, count_by-never xs)
