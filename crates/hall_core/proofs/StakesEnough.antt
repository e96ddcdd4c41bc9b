-- How many stakes there are on a kid's number. Where a number tells the stake, that is how often it is there.
use Rattle.std.proofs.Common.{◌≡◌, inl, inr, ℕ, ◌≤◌, ◌==◌, Contains, List, [], ◌∷◌}
use Rattle.std.proofs.Common.{length, count_by, refl, sym, ap, subst, ◌∙◌, arith, zero-lt-suc, true}
use Rattle.std.specs.List.{AllZip}
use Rattle.std.proofs.lemmas.Bool.{cases_Bool, cases_eq, eq-eqb, ne_eqb}
use Rattle.std.proofs.lemmas.List.Elements.{Contains-append_right}
use Rattle.std.proofs.lemmas.List.Sums.{sum_by-cons}
use Rattle.list_lemmas.proofs.Booleans.{one_if}
use Rattle.node_key.specs.Stakes.{HasStakes, same_stake, times}
use Rattle.node_key.specs.declared.key.Kid.{Kid}
use Rattle.node_key.specs.declared.stake.Stake.{Stake}
use Rattle.node_key.proofs.StakeLaws.{same_stake-refl}
use Rattle.store_laws.specs.Counted.{stakes_on}
use Rattle.store_laws.proofs.SumsOfStakes.{on_cons, same_stake-true}
use Rattle.store_laws.proofs.SumsOfStakes.{there_from_times}
use Rattle.hall_core.specs.OneTree.{OneTreeEach}
use Rattle.hall_core.proofs.TreeOverStakes.{IsKidStake, kid_of, stake_on}

-- how many of the kids have this number
abbrev pub kids_on : ℕ → List Kid → ℕ
kids_on n ks = count_by (λ k. k.node == n) ks

-- one stake among others of which a number tells the stake
same_test : (all : List Stake) (x y : Stake) → OneTreeEach all → Contains all x → Contains all y
    → one_if (same_stake x y) ≡ one_if (y.number == x.number)
same_test all x y one there also = elim (cases_eq y.number x.number) [
  | inl same ↦ (
      let is = one x y there also (sym same) in
      ap one_if (subst (λ (z : Stake). same_stake x z ≡ true) is (same_stake-refl x))
      ∙ sym (ap one_if (eq-eqb y.number x.number same)))
  | inr apart ↦ (
      elim (cases_Bool (same_stake x y)) [
        | inl same ↦ absurd (apart (ap (λ (z : Stake). z.number) (sym (same_stake-true x y same))))
        | inr differ ↦ ap one_if differ ∙ sym (ap one_if (ne_eqb y.number x.number apart))
      ])
]

-- as often as a stake is there, so many are on its number
pub times_on : (all : List Stake) (x : Stake) (xs : List Stake) → OneTreeEach all → Contains all x
    → ((y : Stake) → Contains xs y → Contains all y) → times x xs ≡ stakes_on x.number xs
times_on all x [] one there also = refl
times_on all x (y ∷ ys) one there also =
    let here = same_test all x y one there (also y (0, zero-lt-suc (length ys), refl)) in
    let rest = times_on all x ys one there
    (λ z in'. also z (Contains-append_right (y ∷ []) ys z in')) in
    omega (
      arith,
      sum_by-cons (λ (z : Stake). one_if (same_stake x z)) y ys,
      on_cons x.number y ys,
      here,
      rest,
    )

-- stakes on kids are as many on each number as the kids
pub on_number : (stakes : List Stake) (n : ℕ) (ks : List Kid) (xs : List Stake)
    → AllZip (IsKidStake stakes) ks xs → stakes_on n xs ≡ kids_on n ks
on_number stakes n [] [] on = refl
on_number stakes n [] (x ∷ xs) on = absurd on
on_number stakes n (k ∷ ks) [] on = absurd on
on_number stakes n (k ∷ ks) (x ∷ xs) on =
    let here = ap (λ (m : ℕ). one_if (m == n)) on.0.number in
    omega (
      arith,
      on_cons n x xs,
      sum_by-cons (λ (j : Kid). one_if (j.node == n)) k ks,
      here,
      on_number stakes n ks xs on.1,
    )

-- each stake is on the number of its kid, of which there are as many as kids
pub has_enough : (stakes : List Stake) (ks : List Kid) (xs : List Stake) → OneTreeEach stakes
    → AllZip (IsKidStake stakes) ks xs
    → ((k : Kid) → Contains ks k → kids_on k.node ks ≤ stakes_on k.node stakes) → HasStakes stakes xs
has_enough stakes ks xs one on enough x = elim (cases_eq (times x xs) 0) [
  | inl none ↦ omega (arith, none)
  | inr some ↦ (
      let there = there_from_times x xs (omega (arith, some)) in
      let kid = kid_of stakes ks xs x on there in
      let among = λ (y : Stake) (in' : Contains xs y). (kid_of stakes ks xs y on in').2.there in
      let wanted = times_on stakes x xs one kid.2.there among in
      let had = times_on stakes x stakes one kid.2.there (λ y in'. in') in
      let named = ap (λ (n : ℕ). kids_on n ks) kid.2.number in
      let held = ap (λ (n : ℕ). stakes_on n stakes) kid.2.number in
      omega (arith, wanted, had, on_number stakes x.number ks xs on, enough kid.0 kid.1, named, held))
]

-- where the stakes are there, so many are on the number of each kid
pub enough_had : (stakes : List Stake) (ks : List Kid) (xs : List Stake) (k : Kid) → OneTreeEach stakes
    → AllZip (IsKidStake stakes) ks xs → HasStakes stakes xs → Contains ks k
    → kids_on k.node ks ≤ stakes_on k.node stakes
enough_had stakes ks xs k one on has there =
    let at = stake_on stakes ks xs k on there in
    let x = at.0 in
    let among = λ (y : Stake) (in' : Contains xs y). (kid_of stakes ks xs y on in').2.there in
    let wanted = times_on stakes x xs one at.2.there among in
    let had = times_on stakes x stakes one at.2.there (λ y in'. in') in
    let named = ap (λ (n : ℕ). kids_on n ks) at.2.number in
    let held = ap (λ (n : ℕ). stakes_on n stakes) at.2.number in
    omega (arith, wanted, had, on_number stakes x.number ks xs on, has x, named, held)
