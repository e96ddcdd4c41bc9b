-- Stakes that are taken out of a list by their numbers.
use Rattle.std.proofs.Common.{◌≡◌, ◌≤◌, ◌∙◌, ℕ, Bool, true, false, Contains, List, [], ◌∷◌, ap, arith, eqb, eqb-true, eq-eqb, inl, inr}
use Rattle.std.proofs.Common.{length, map, refl, remove, sym, zero-lt-suc}
use Rattle.std.proofs.lemmas.Bool.{cases_eq, false≢true}
use Rattle.std.proofs.lemmas.List.Elements.{Contains-append_right}
use Rattle.std.proofs.lemmas.List.Sums.{sum_by-cons, sum_by-remove}
use Rattle.list_lemmas.proofs.Booleans.{one_if}
use Rattle.node_key.specs.Stakes.{Exchanges, HasStakes, same_stake, times}
use Rattle.node_key.specs.declared.stake.Stake.{Stake}
use Rattle.node_key.proofs.StakeLaws.{same_stake-refl}
use Rattle.registry_core.specs.Roots.{times_root}
use Rattle.store_laws.proofs.SumsOfStakes.{among_held, on_cons, same_stake-true, there_from_times}
use Rattle.store_laws.specs.Counted.{stakes_on}

-- what is had can be taken out
pub taken_out : (held wanted : List Stake) → HasStakes held wanted
    → (left : List Stake) × Exchanges held left wanted []
taken_out held [] has = (held, λ x. refl)
taken_out held (x ∷ xs) has =
    let at_first : Contains (x ∷ xs) x = (0, zero-lt-suc (length xs), refl) in
    let there = among_held held (x ∷ xs) x has at_first in
    let i = there.0 in
    let less = λ (z : Stake). sum_by-remove (λ (w : Stake). one_if (same_stake z w)) held i x there.1 in
    let same = λ (z : Stake). ap (λ (w : Stake). one_if (same_stake z w)) there.2 in
    let rest : HasStakes (remove held i) xs = λ z.
    omega (arith, has z, less z, same z, sum_by-cons (λ (w : Stake). one_if (same_stake z w)) x xs) in
    let (left, swap) = taken_out (remove held i) xs rest in
    (left, λ z. omega (arith, swap z, less z, same z, sum_by-cons (λ (w : Stake). one_if (same_stake z w)) x xs))

-- Where each stake on its number is this one, it stands as often as there are stakes on the number.
pub times_by_number : (x : Stake) (xs : List Stake) → ((y : Stake) → Contains xs y → y.number ≡ x.number → y ≡ x)
    → times x xs ≡ stakes_on x.number xs
times_by_number x [] one = refl
times_by_number x (y ∷ ys) one =
    let rest = times_by_number x ys (λ z there. one z (Contains-append_right (y ∷ []) ys z there)) in
    let here = alike (same_stake x y) (eqb y.number x.number) refl refl in
    omega (
      arith,
      rest,
      ap one_if here,
      sum_by-cons (λ (w : Stake). one_if (same_stake x w)) y ys,
      sum_by-cons (λ (w : Stake). one_if (eqb w.number x.number)) y ys,
    )
  where
    alike : (a b : Bool) → same_stake x y ≡ a → eqb y.number x.number ≡ b → a ≡ b
    alike true true same number = refl
    alike false false same number = refl
    alike true false same number =
        absurd (false≢true (sym number ∙ eq-eqb y.number x.number
        (ap (λ (z : Stake). z.number) (sym (same_stake-true x y same)))))
    alike false true same number =
        let is = one y (0, zero-lt-suc (length ys), refl) (eqb-true y.number x.number number) in
        absurd (false≢true (sym same ∙ ap (same_stake x) is ∙ same_stake-refl x))

-- stakes on these numbers are as many on each as it stands among these
pub on_numbers : (n : ℕ) (xs : List Stake) → times_root n (map (λ (x : Stake). x.number) xs) ≡ stakes_on n xs
on_numbers n [] = refl
on_numbers n (x ∷ xs) =
    omega (
      arith,
      on_numbers n xs,
      on_cons n x xs,
      sum_by-cons (λ m. one_if (eqb m n)) x.number (map (λ (y : Stake). y.number) xs),
    )

-- Stakes whose numbers are among those of others, no number oftener, can be taken out of these, where each of the
-- others on the number of one is that one.
pub taken_by_number : (held wanted : List Stake)
    → ((x y : Stake) → Contains wanted x → Contains held y → y.number ≡ x.number → y ≡ x)
    → ((x y : Stake) → Contains wanted x → Contains wanted y → y.number ≡ x.number → y ≡ x)
    → ((n : ℕ) → stakes_on n wanted ≤ stakes_on n held) → HasStakes held wanted
taken_by_number held wanted one alike few x = elim (cases_eq (times x wanted) 0) [
  | inl none ↦ omega (arith, none)
  | inr some ↦
      let there = there_from_times x wanted (omega (arith, some)) in
      omega (
        arith,
        few x.number,
        times_by_number x held (λ y among. one x y there among),
        times_by_number x wanted (λ y among. alike x y there among),
      )
]
