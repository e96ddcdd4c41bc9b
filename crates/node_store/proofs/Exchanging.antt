-- Exchanges of stakes, and of those that a store holds.
use Rattle.std.proofs.Common.{◌≡◌, ℕ, ◌≤◌, ◌==◌, Bool, true, false, cond, List, []}
use Rattle.std.proofs.Common.{◌∷◌, ◌++◌, Some, refl, sym, ap, ◌∙◌, arith}
use Rattle.std.proofs.lemmas.Bool.{eq-eqb}
use Rattle.std.proofs.lemmas.List.Sums.{sum_by-le-sum_by}
use Rattle.node_key.specs.Stakes.{Exchanges, HasStakes, same_stake, times}
use Rattle.node_key.specs.declared.stake.Stake.{Stake}
use Rattle.node_key.proofs.StakeLaws.{same_stake-refl, times-append, times-cons, times-one}
use Rattle.shard_core.specs.Room.{Stored}
use Rattle.store_laws.specs.Counted.{stakes_on}
use Rattle.store_laws.specs.Store.{Store, node_in}
use Rattle.store_laws.proofs.SumsOfStakes.{same_stake-true}
use Rattle.store_laws.proofs.StoreExchanged.{store_exchanged}
use Rattle.node_store.specs.Given.{Given, stake_at, staked_at, stakes_of}
use Rattle.node_store.specs.Kept.{KeepsFor}
use Rattle.node_store.proofs.Keeping.{kept}
use Rattle.node_store.proofs.StakesCounted.{times-stakes_of}

-- a stake that is exchanged for nothing was there
pub has_from_exchange : (old new : List Stake) (x : Stake) → Exchanges old new (x ∷ []) [] → HasStakes old
    (x ∷ [])
has_from_exchange old new x swap y = omega (arith, swap y)

-- what is exchanged in a part is exchanged in the whole
pub exchanged_before : (old new rest taken given : List Stake) → Exchanges old new taken given
    → Exchanges (old ++ rest) (new ++ rest) taken given
exchanged_before old new rest taken given swap x =
    omega (arith, swap x, times-append x old rest, times-append x new rest)

pub exchanged_behind : (front old new taken given : List Stake) → Exchanges old new taken given
    → Exchanges (front ++ old) (front ++ new) taken given
exchanged_behind front old new taken given swap x =
    omega (arith, swap x, times-append x front old, times-append x front new)

pub has_behind : (front held wanted : List Stake) → HasStakes held wanted → HasStakes (front ++ held) wanted
has_behind front held wanted has x = omega (arith, has x, times-append x front held)

-- a stake that the owner gives away is one of the others
pub given_away : (rooms : Store) (g after : Given) (x : Stake) (others : List Stake)
    → Exchanges (stakes_of g) (stakes_of after) (x ∷ []) [] → KeepsFor (kept rooms g) others
    → KeepsFor (kept rooms after) (x ∷ others)
given_away rooms g after x others swap keeps =
    store_exchanged rooms (stakes_of g ++ others) (stakes_of after ++ x ∷ others) keeps (λ y.
    omega (
      arith,
      swap y,
      times-append y (stakes_of g) others,
      times-append y (stakes_of after) (x ∷ others),
      times-cons y x others,
      times-one y x,
    ))

-- ---- how many stakes are on a number

less_often : (x y : Stake) (b : Bool) → same_stake x y ≡ b → cond {A = ℕ} b 1 0 ≤ cond
    (y.number == x.number) 1 0
less_often x y true same =
    let number = ap (λ (z : Stake). z.number) (same_stake-true x y same) in
    let is = ap (λ (b : Bool). cond {A = ℕ} b 1 0) (eq-eqb y.number x.number (sym number)) in
    omega (arith, is)
less_often x y false same = omega arith

times_le : (x : Stake) (xs : List Stake) → times x xs ≤ stakes_on x.number xs
times_le x xs = sum_by-le-sum_by (λ (y : Stake). cond (same_stake x y) 1 0)
    (λ (y : Stake). cond (y.number == x.number) 1 0) xs (λ y. less_often x y (same_stake x y) refl)

-- the owner has no more stakes on a node than it is counted
pub staked_le : (rooms : Store) (g : Given) (others : List Stake) (n : ℕ) (s : Stored)
    → KeepsFor (kept rooms g) others → node_in rooms n ≡ Some s → staked_at g n ≤ s.count
staked_le rooms g others n s keeps is =
    let x = stake_at g n in
    let own = times-stakes_of g x ∙ ap (λ (b : Bool). cond b (staked_at g n) 0) (same_stake-refl x) in
    let held = stakes_of g ++ others in
    omega (arith, own, times-append x (stakes_of g) others, times_le x held, keeps.counted.counts n s is)
