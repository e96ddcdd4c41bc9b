-- How often a stake is among those of the owner.
use Rattle.std.proofs.Common.{◌≡◌, ◌⊎◌, inl, inr, ℕ, zero, suc, ◌+◌, ◌<◌, ◌≤◌, Bool}
use Rattle.std.proofs.Common.{cond, List, replicate, refl}
use Rattle.std.proofs.Common.{sym, ap, ◌∙◌, arith}
use Rattle.std.specs.List.{flat_map, range_with_len}
use Rattle.std.proofs.lemmas.Bool.{cases_Bool, cases_eq, cases_lt}
use Rattle.list_lemmas.proofs.Booleans.{cond-suc, cond_nothing}
use Rattle.node_key.specs.Stakes.{same_stake, times}
use Rattle.node_key.specs.declared.stake.Stake.{Stake}
use Rattle.node_key.specs.Tree.{Tree}
use Rattle.node_key.proofs.StakeLaws.{times-append, times-cons}
use Rattle.store_laws.proofs.SumsOfStakes.{same_stake-true}
use Rattle.node_store.specs.Given.{Given, ever, past_numbers, stake_at, staked_at, stakes_of}
use Rattle.node_store.specs.TreeUnder.{tree_under}
use Rattle.node_store.proofs.GivenEntries.{staked_past}

times-replicate : (x y : Stake) (m : ℕ) → times x (replicate m y) ≡ cond (same_stake x y) m 0
times-replicate x y zero = sym (cond_nothing (same_stake x y))
times-replicate x y (suc m) =
    times-cons x y (replicate m y) ∙ ap (λ (n : ℕ). cond (same_stake x y) 1 0 + n) (times-replicate x y m)
    ∙ cond-suc (same_stake x y) m

module _ (x : Stake) (many : ℕ → ℕ) (tree : ℕ → Tree) where
  abbrev stake : ℕ → Stake
  stake n = record { number = n; tree = tree n }

  abbrev these : ℕ → List Stake
  these n = replicate (many n) (stake n)

  abbrev hits : ℕ → ℕ
  hits n = cond (same_stake x (stake n)) (many n) 0

  split : (a len : ℕ) → times x (flat_map these (range_with_len a (suc len)))
      ≡ hits a + times x (flat_map these (range_with_len (a + 1) len))
  split a len = times-append x (these a) (flat_map these (range_with_len (a + 1) len))
      ∙ ap (λ (n : ℕ). n + times x (flat_map these (range_with_len (a + 1) len)))
      (times-replicate x (stake a) (many a))

  other : (n : ℕ) → (x.number ≡ n → ⊥) → hits n ≡ 0
  other n apart = elim (cases_Bool (same_stake x (stake n))) [
    | inl same ↦ absurd (apart (ap (λ (y : Stake). y.number) (same_stake-true x (stake n) same)))
    | inr differ ↦ ap (λ (b : Bool). cond b (many n) 0) differ
  ]

  outside : (a len : ℕ) → (x.number < a) ⊎ (a + len ≤ x.number)
      → times x (flat_map these (range_with_len a len)) ≡ 0
  outside a zero where_it_is = refl
  outside a (suc len) (inl low) =
      let here = other a (λ e. omega (arith, low, e)) in
      let rest = outside (a + 1) len (inl (omega (arith, low))) in
      omega (arith, split a len, here, rest)
  outside a (suc len) (inr high) =
      let here = other a (λ e. omega (arith, high, e)) in
      let rest = outside (a + 1) len (inr (omega (arith, high))) in
      omega (arith, split a len, here, rest)

  inside : (a len : ℕ) → a ≤ x.number → x.number < a + len
      → times x (flat_map these (range_with_len a len)) ≡ hits x.number
  inside a zero low high = absurd (omega (arith, low, high))
  inside a (suc len) low high = elim (cases_eq x.number a) [
    | inl same ↦ (
        let rest = outside (a + 1) len (inl (omega (arith, same))) in
        let here = ap hits same in
        omega (arith, split a len, here, rest))
    | inr apart ↦ (
        let here = other a apart in
        let above : a + 1 ≤ x.number = omega (arith, low, apart) in
        let rest = inside (a + 1) len above (omega (arith, high)) in
        omega (arith, split a len, here, rest))
  ]

-- a stake is there as often as its number is staked, where it has the tree of its number
pub times-stakes_of : (g : Given) (x : Stake) → times x (stakes_of g)
    ≡ cond (same_stake x (stake_at g x.number)) (staked_at g x.number) 0
unfolding stakes_of
times-stakes_of g x = elim (cases_lt x.number (past_numbers g)) [
  | inl low ↦ inside x (staked_at g) (tree_under (ever g)) 0 (past_numbers g) (omega arith)
      (omega (arith, low))
  | inr high ↦ (
      outside x (staked_at g) (tree_under (ever g)) 0 (past_numbers g) (inr (omega (arith, high)))
      ∙ sym (ap (λ (n : ℕ). cond (same_stake x (stake_at g x.number)) n 0) (staked_past g x.number high)
      ∙ cond_nothing (same_stake x (stake_at g x.number))))
]
