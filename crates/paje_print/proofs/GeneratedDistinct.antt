-- The different numbers of a list: how many there are, after a filter, under a map, and their places.
use Rattle.std.proofs.Common.{◌≡◌, ℕ, ◌+◌, ◌<◌, ◌≤◌, zero, suc, List, [], ◌∷◌, length, Bool}
use Rattle.std.proofs.Common.{not, filter, map, nat_eq}
use Rattle.std.proofs.Common.{refl, ap, sym, ◌∙◌, arith, inl, inr}
use Rattle.std.specs.List.{AllByRecursion, range_with_len}
use Rattle.std.proofs.lemmas.Bool.{true≢false, cond_both, cond-true, cond-false, ne_eqb, eq-eqb, eqb-true}
use Rattle.std.proofs.lemmas.Bool.{cases_eq, or_left, or_right}
use Rattle.std.proofs.lemmas.List.{ext_get_or, get_or-map, length-map}
use Rattle.std.proofs.lemmas.List.FromFn.{get_or-range_with_len, length-range_with_len}
use Rattle.list_lemmas.proofs.Distinct.{AreApart, apart_counted, below_rest}
use Rattle.list_lemmas.proofs.Each.{all_mapped}
use Rattle.list_lemmas.proofs.Filters.{filter-map_agree, filter_filter_same, filter_filter_swap}
use Rattle.list_lemmas.proofs.Found.{any_implied}
use Rattle.list_lemmas.proofs.Numbers.{not_eqb}
use Rattle.list_lemmas.proofs.Places.{StandsIn, place_in, place_in-apart, place_in-only}
use Rattle.paje_lines.specs.Found.{distinct_by}
use Rattle.paje_lines.proofs.DistinctItems.{distinct_all, distinct_apart}

-- the different numbers
abbrev pub different : List ℕ → List ℕ
different xs = distinct_by nat_eq xs

-- ---- after a filter

pub different-filter : (p : ℕ → Bool) (xs : List ℕ) → filter p (different xs) ≡ different (filter p xs)
different-filter p [] = refl
different-filter p (x ∷ xs) =
    let later : filter p (different xs) ≡ different (filter p xs) = different-filter p xs in
    cond_both (p x) (x ∷ filter p xs) (filter p xs) (λ ys. filter p (different (x ∷ xs)) ≡ different ys)
    (λ e. cond-true (p x) (x ∷ filter p (filter (λ y. not (nat_eq x y)) (different xs))) _ e
    ∙ ap (λ ys. x ∷ ys) (filter_filter_swap p (λ y. not (nat_eq x y)) (different xs)
    ∙ ap (filter (λ y. not (nat_eq x y))) later))
    (λ e. cond-false (p x) (x ∷ filter p (filter (λ y. not (nat_eq x y)) (different xs))) _ e
    ∙ (filter_filter_same p (λ y. not (nat_eq x y))
    (λ y passes. not_eqb x y (λ same. true≢false (sym passes ∙ (ap p (sym same) ∙ e)))) (different xs)
    ∙ later))

-- ---- how many

-- at most as many as there are numbers below a limit
pub different-few : (n : ℕ) (xs : List ℕ) → AllByRecursion (λ x. x < n) xs → length (different xs) ≤ n
different-few zero [] all = omega arith
different-few zero (x ∷ xs) all = let first : x < 0 = all.0 in absurd (omega (arith, first))
different-few (suc n) xs all =
    let rest : List ℕ = filter (λ y. not (nat_eq n y)) xs in
    let few : length (different rest) ≤ n = different-few n rest (below_rest n xs all) in
    omega (
      arith,
      few,
      ap length (different-filter (λ y. not (nat_eq n y)) xs),
      apart_counted n (different xs) (distinct_apart nat_eq xs),
    )

-- ---- under a map that keeps them apart

pub different-map : (g : ℕ → ℕ) (P : ℕ → Type 0) → ((x y : ℕ) → P x → P y → g x ≡ g y → x ≡ y) → (xs : List ℕ)
    → AllByRecursion P xs → different (map g xs) ≡ map g (different xs)
different-map g P apart [] all = refl
different-map g P apart (x ∷ xs) all =
    ap (λ ys. g x ∷ filter (λ y. not (nat_eq (g x) y)) ys) (different-map g P apart xs all.1)
    ∙ ap (λ ys. g x ∷ ys) (filter-map_agree (λ y. not (nat_eq (g x) y)) (λ y. not (nat_eq x y)) g (different
    xs) (all_mapped P (λ y. not (nat_eq (g x) (g y)) ≡ not (nat_eq x y)) (λ y has. ap not (alike y has))
    (different xs)
    (distinct_all nat_eq P xs all.1)))
  where
    alike : (y : ℕ) → P y → nat_eq (g x) (g y) ≡ nat_eq x y
    alike y has = elim (cases_eq x y) [
      | inl same ↦ eq-eqb (g x) (g y) (ap g same) ∙ sym (eq-eqb x y same)
      | inr ne ↦ ne_eqb (g x) (g y) (λ e. ne (apart x y all.0 has e)) ∙ sym (ne_eqb x y ne)
    ]

-- ---- places

stands-more : (x y : ℕ) (xs : List ℕ) → StandsIn (different xs) y → StandsIn (different (x ∷ xs)) y
stands-more x y xs stands = elim (cases_eq y x) [
  | inl same ↦ or_left (nat_eq y x) _ (eq-eqb y x same)
  | inr ne ↦ or_right (nat_eq y x) _ (any_implied (nat_eq y) (λ z. not (nat_eq x z)) (different xs)
      (λ z is. not_eqb x z (λ e. ne (eqb-true y z is ∙ sym e))) stands)
]

-- each number of a list is one of the different ones
pub each-stands : (xs : List ℕ) → AllByRecursion (StandsIn (different xs)) xs
each-stands [] = tt
each-stands (x ∷ xs) = (
  or_left (nat_eq x x) _ (eq-eqb x x refl),
  all_mapped (StandsIn (different xs)) (StandsIn (different (x ∷ xs))) (λ y. stands-more x y xs) xs
      (each-stands xs),
)

abbrev pub number_in : List ℕ → ℕ → ℕ
number_in xs x = place_in xs x + 2

numbers-of : (xs : List ℕ) → AreApart nat_eq xs → map (number_in xs) xs ≡ range_with_len 2 (length xs)
numbers-of xs apart = ext_get_or 0 (map (number_in xs) xs) (range_with_len 2 (length xs))
    (length-map xs (number_in xs) ∙ sym (length-range_with_len 2 (length xs)))
    (λ i l.
    let within : i < length xs = omega (arith, l, length-map xs (number_in xs)) in
    get_or-map (number_in xs) xs i 0 0 within
    ∙ (omega (arith, place_in-only xs apart i within)
    ∙ sym (get_or-range_with_len 2 (length xs) i 0 within)))

-- the numbers of a list's different numbers, in the order in which they first stand there
pub numbers-different : (xs : List ℕ) → different (map (number_in (different xs)) xs)
    ≡ range_with_len 2 (length (different xs))
numbers-different xs = different-map (number_in (different xs)) (StandsIn (different xs))
    (λ x y here there same. place_in-apart (different xs) x y here there (omega (arith, same))) xs
    (each-stands xs)
    ∙ numbers-of (different xs) (distinct_apart nat_eq xs)
