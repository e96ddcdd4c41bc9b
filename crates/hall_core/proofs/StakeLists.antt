-- A list of stakes of which some are wanted or taken, and to which others are added.
use Rattle.std.proofs.Common.{◌≡◌, ◌+◌, ◌≤◌, Contains, List, [], ◌∷◌, ◌++◌, length, remove, refl, ap}
use Rattle.std.proofs.Common.{arith, zero-lt-suc}
use Rattle.std.specs.List.{sum_by}
use Rattle.std.proofs.lemmas.List.Edits.{length-remove}
use Rattle.std.proofs.lemmas.List.Sums.{sum_by-cons, sum_by-remove}
use Rattle.list_lemmas.proofs.Booleans.{one_if}
use Rattle.node_key.specs.Stakes.{Exchanges, HasStakes, same_stake}
use Rattle.node_key.specs.declared.stake.Stake.{Stake}
use Rattle.node_key.proofs.StakeLaws.{times-append}
use Rattle.store_laws.proofs.SumsOfStakes.{among_held, sum_exchanged}

-- one for each stake adds up to how many there are
sum-ones : (xs : List Stake) → sum_by (λ (x : Stake). 1) xs ≡ length xs
sum-ones [] = refl
sum-ones (x ∷ xs) = omega (arith, sum_by-cons (λ (y : Stake). 1) x xs, sum-ones xs)

-- how many stakes there are, before and after an exchange
pub length-exchanged : (old new taken given : List Stake) → Exchanges old new taken given
    → length new + length taken ≡ length old + length given
length-exchanged old new taken given swap =
    omega (
      arith,
      sum_exchanged (λ (x : Stake). 1) old new taken given swap,
      sum-ones old,
      sum-ones new,
      sum-ones taken,
      sum-ones given,
    )

-- what is added to the stakes that are left is given
pub exchanges-append : (old left taken more : List Stake) → Exchanges old left taken []
    → Exchanges old (left ++ more) taken more
exchanges-append old left taken more swap x = omega (arith, swap x, times-append x left more)

-- there are at least as many stakes as some of them
pub length-HasStakes : (held wanted : List Stake) → HasStakes held wanted → length wanted ≤ length held
length-HasStakes held [] has = omega arith
length-HasStakes held (x ∷ xs) has =
    let at_first : Contains (x ∷ xs) x = (0, zero-lt-suc (length xs), refl) in
    let there = among_held held (x ∷ xs) x has at_first in
    let i = there.0 in
    let rest : HasStakes (remove held i) xs = λ z.
    let t = λ (w : Stake). one_if (same_stake z w) in
    omega (arith, has z, sum_by-remove t held i x there.1, ap t there.2, sum_by-cons t x xs) in
    omega (arith, length-HasStakes (remove held i) xs rest, length-remove held i there.1)
