-- Lists that are filtered: what is kept or summed of them, and keys that rise.
use Rattle.std.proofs.Common.{◌≡◌, ℕ, ◌+◌, Bool, true, false, cond, ◌&&◌, List, [], ◌∷◌, map, filter, All}
use Rattle.std.proofs.Common.{sum_by, refl, sym, ap, ap₂, ◌∙◌, arith, nat_cmp}
use Rattle.std.specs.List.{AllByRecursion}
use Rattle.std.specs.List.Sorted.{IsStrictlySortedBy}
use Rattle.std.proofs.lemmas.List.Elements.{All-cons, All-head, All-nil, All-tail}
use Rattle.std.proofs.lemmas.List.Sums.{sum_by-cons}

module _ {X : Type 0} where
  -- two tests that agree at each item of a list keep the same of it
  pub filter_agrees : (p q : X → Bool) (xs : List X) → All (λ x. p x ≡ q x) xs → filter p xs ≡ filter q xs
  filter_agrees p q [] agree = refl
  filter_agrees p q (x ∷ xs) agree = ap₂ (λ b ys. cond b (x ∷ ys) ys) (All-head (λ x. p x ≡ q x) x xs agree)
      (filter_agrees p q xs (All-tail (λ x. p x ≡ q x) x xs agree))

  -- two filters are one
  pub filter-filter : (p q : X → Bool) (xs : List X)
      → filter q (filter p xs) ≡ filter (λ x. p x && q x) xs
  filter-filter p q [] = refl
  filter-filter p q (x ∷ xs) =
      elim (p x) as (λ b. filter q (cond b (x ∷ filter p xs) (filter p xs))
      ≡ cond (b && q x) (x ∷ filter (λ x. p x && q x) xs) (filter (λ x. p x && q x) xs)) [
        | true ↦ ap (λ ys. cond (q x) (x ∷ ys) ys) (filter-filter p q xs)
        | false ↦ filter-filter p q xs
      ]

  -- what is left out adds nothing to a sum
  pub sum_by-filter_zero : (g : X → ℕ) (p : X → Bool) (xs : List X) → All (λ x. p x ≡ false → g x ≡ 0) xs
      → sum_by g (filter p xs) ≡ sum_by g xs
  sum_by-filter_zero g p [] zeros = refl
  sum_by-filter_zero g p (x ∷ xs) zeros =
      let rest : sum_by g (filter p xs) ≡ sum_by g xs =
      sum_by-filter_zero g p xs (All-tail (λ x. p x ≡ false → g x ≡ 0) x xs zeros) in
      let here : p x ≡ false → g x ≡ 0 = All-head (λ x. p x ≡ false → g x ≡ 0) x xs zeros in
      elim (p x) as (λ b. (b ≡ false → g x ≡ 0) → sum_by g (cond b (x ∷ filter p xs) (filter p xs))
      ≡ sum_by g (x ∷ xs)) [
        | true ↦ λ zero. sum_by-cons g x (filter p xs) ∙ ap (λ n. g x + n) rest ∙ sym (sum_by-cons g x xs)
        | false ↦ λ zero. rest ∙ omega (arith, zero refl, sum_by-cons g x xs)
      ] here

  -- what holds of each key of a list holds of each key of a filtered one
  all-filter : (P : ℕ → Type 0) (key : X → ℕ) (p : X → Bool) (xs : List X) → AllByRecursion P (map key xs)
      → AllByRecursion P (map key (filter p xs))
  all-filter P key p [] all = all
  all-filter P key p (x ∷ xs) all =
      elim (p x) as (λ b. AllByRecursion P (map key (cond b (x ∷ filter p xs) (filter p xs)))) [
        | true ↦ (all.0, all-filter P key p xs all.1)
        | false ↦ all-filter P key p xs all.1
      ]

  -- keys that rise still rise in a filtered list
  pub rising-filter : (key : X → ℕ) (p : X → Bool) (xs : List X) → IsStrictlySortedBy nat_cmp (map key xs)
      → IsStrictlySortedBy nat_cmp (map key (filter p xs))
  unfolding IsStrictlySortedBy
  rising-filter key p [] rising = rising
  rising-filter key p (x ∷ xs) rising =
      elim (p x) as (λ b. IsStrictlySortedBy nat_cmp (map key (cond b (x ∷ filter p xs) (filter p xs)))) [
        | true ↦ (all-filter _ key p xs rising.0, rising-filter key p xs rising.1)
        | false ↦ rising-filter key p xs rising.1
      ]

  -- what holds of each key of a list, said of its items
  pub all_of_keys : (P : ℕ → Type 0) (key : X → ℕ) (xs : List X) → AllByRecursion P (map key xs)
      → All (λ x. P (key x)) xs
  all_of_keys P key [] all = All-nil (λ x. P (key x))
  all_of_keys P key (x ∷ xs) all = All-cons (λ x. P (key x)) x xs all.0 (all_of_keys P key xs all.1)
