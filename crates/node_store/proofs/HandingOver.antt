-- One of the owner's stakes is counted elsewhere.
use Rattle.std.proofs.Common.{◌≡◌, ℕ, ◌-◌, ◌≤◌, List, [], ◌∷◌, sym, arith, subst}
use Rattle.node_key.specs.Stakes.{Exchanges, HasStakes, stake}
use Rattle.node_key.specs.declared.stake.Stake.{Stake}
use Rattle.node_key.specs.Tree.{Tree}
use Rattle.store_laws.specs.Store.{Store}
use Rattle.node_store.specs.Answering.{HasStakeOn, TakesStake}
use Rattle.node_store.specs.Changes.{with_staked}
use Rattle.node_store.specs.Given.{Given, ever, staked_at, stakes_of}
use Rattle.node_store.specs.Kept.{AreKept, KeepsFor, NodesKept}
use Rattle.node_store.specs.TreeUnder.{tree_under}
use Rattle.node_store.proofs.Exchanging.{given_away}
use Rattle.node_store.proofs.Keeping.{kept, kept_staked}
use Rattle.node_store.proofs.Staking.{ever-with_staked, given_from_staked, one_less, restaked_given}
use Rattle.node_store.proofs.Staking.{staked_from_has, staked_now}

-- the number is staked
pub is_staked : (s : NodesKept) (n : ℕ) → HasStakeOn s n → 1 ≤ staked_at s.given n
is_staked s n has = (staked_from_has s.given n has.0 has.1).0

-- all that follows
pub record IsHandedOver (rooms : Store) (g after : Given) (n : ℕ) : Type 0 where
  pub sound : AreKept (kept rooms after)
  pub stakes : TakesStake (kept rooms g) n (kept rooms after)
  pub numbers : ever after ≡ ever g
  pub keeps : (others : List Stake) (t : Tree) → HasStakes (stakes_of g) (stake n t ∷ [])
      → KeepsFor (kept rooms g) others → KeepsFor (kept rooms after) (stake n t ∷ others)

taken_one : (rooms : Store) (g : Given) (n : ℕ) → 1 ≤ staked_at g n
    → TakesStake (kept rooms g) n (kept rooms (with_staked g n (staked_at g n - 1)))
taken_one rooms g n staked t has =
    let e = given_from_staked g n staked in
    let after = with_staked g n (staked_at g n - 1) in
    let own = restaked_given g n e.0 (staked_at g n - 1) e.1 in
    let now = staked_now g n e.0 (staked_at g n - 1) e.1 in
    subst (λ (u : Tree). Exchanges (stakes_of g) (stakes_of after) (stake n u ∷ []) [])
    (staked_from_has g n t has).1
    (one_less g after n (tree_under (ever g) n) own (omega (arith, now, staked)))

handed : (rooms : Store) (g : Given) (n : ℕ) → AreKept (kept rooms g) → 1 ≤ staked_at g n
    → IsHandedOver rooms g (with_staked g n (staked_at g n - 1)) n
handed rooms g n sound staked =
    let e = given_from_staked g n staked in
    let after = with_staked g n (staked_at g n - 1) in
    record {
      sound = kept_staked g n e.0 (staked_at g n - 1) e.1 rooms sound;
      stakes = taken_one rooms g n staked;
      numbers = ever-with_staked g n e.0 (staked_at g n - 1) e.1;
      keeps = λ others t has keeps. given_away rooms g after (stake n t) others
          (taken_one rooms g n staked t has)
          keeps;
    }

pub handed_over : (rooms : Store) (g after : Given) (n : ℕ) → AreKept (kept rooms g) → 1 ≤ staked_at g n
    → after ≡ with_staked g n (staked_at g n - 1) → IsHandedOver rooms g after n
handed_over rooms g after n sound staked is =
    subst (λ (h : Given). IsHandedOver rooms g h n) (sym is) (handed rooms g n sound staked)
