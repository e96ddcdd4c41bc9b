-- The owner's stakes as a list, in whatever order.
use Rattle.std.proofs.Common.{◌≡◌, ℕ, List, [], ◌∷◌, ◌++◌, arith, ap, subst, sym}
use Rattle.node_key.specs.Stakes.{Exchanges, HasStakes, IsOverStakes, stake, times}
use Rattle.node_key.specs.Tree.{Tree}
use Rattle.node_key.specs.declared.key.NodeKey.{NodeKey}
use Rattle.node_key.specs.declared.stake.Stake.{Stake}
use Rattle.node_key.proofs.StakeLaws.{times-append, times-cons, times-one}
use Rattle.node_store.specs.Answering.{GivesStake, Owns, answered_number}
use Rattle.shard_core.specs.declared.answers.Interned.{Interned}
use Rattle.node_store.specs.Given.{stakes_of}
use Rattle.node_store.specs.Kept.{NodesKept}

-- it has those that are listed first
pub owned_first : (s : NodesKept) (kids xs : List Stake) → Owns s (kids ++ xs)
    → HasStakes (stakes_of s.given) kids
owned_first s kids xs owns x = omega (arith, owns x, times-append x kids xs)

-- some of them for another
pub owned_for : (old new : NodesKept) (kids xs : List Stake) (y : Stake) → Owns old (kids ++ xs)
    → Exchanges (stakes_of old.given) (stakes_of new.given) kids (y ∷ []) → Owns new (y ∷ xs)
owned_for old new kids xs y owns swap x =
    omega (arith, owns x, swap x, times-append x kids xs, times-cons x y xs, times-one x y)

-- one less
pub owned_less : (old new : NodesKept) (xs : List Stake) (y : Stake) → Owns old (y ∷ xs)
    → Exchanges (stakes_of old.given) (stakes_of new.given) (y ∷ []) [] → Owns new xs
owned_less old new xs y owns swap x =
    omega (arith, owns x, swap x, times-cons x y xs, times-one x y)

-- none at first
pub owns_none : (s : NodesKept) → stakes_of s.given ≡ [] → Owns s []
owns_none s none x = let same = ap (times x) none in omega (arith, same)

-- the number that was answered for the stakes on the kids
pub owned_answer : (old new : NodesKept) (key : NodeKey) (answer : Interned) (n : ℕ) (t : Tree)
    (kids xs : List Stake) → n ≡ answered_number answer → GivesStake old key answer new
    → IsOverStakes t kids key → Owns old (kids ++ xs) → Owns new (stake n t ∷ xs)
owned_answer old new key answer n t kids xs is gives over owns =
    subst (λ (m : ℕ). Owns new (stake m t ∷ xs)) (sym is)
    (owned_for old new kids xs (stake (answered_number answer) t) owns
    (gives t kids over (owned_first old kids xs owns)))
