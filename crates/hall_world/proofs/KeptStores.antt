-- A stake that is given back keeps the store.
use Rattle.std.proofs.Common.{◌≡◌, ◌%◌, ◌≤◌, Bool, true, false, List, [], ◌∷◌, ◌++◌}
use Rattle.std.proofs.Common.{Contains, Some, refl, sym, ap, ◌∙◌, arith, map, slice_get, slice_set}
use Rattle.std.proofs.Common.{subst}
use Rattle.std.proofs.lemmas.List.Sums.{sum_by-cons}
use Rattle.list_lemmas.proofs.Booleans.{one_if}
use Rattle.list_lemmas.proofs.Fronts.{cons_head, cons_tail, no_cons}
use Rattle.node_key.specs.Keys.{numbered}
use Rattle.node_key.specs.Stakes.{AreOnKids, Exchanges, HasStakes, IsOverStakes, same_stake, times}
use Rattle.node_key.specs.Tree.{Kids, Tree, kid, no_kids}
use Rattle.node_key.specs.declared.key.Kid.{Kid}
use Rattle.node_key.specs.declared.key.NodeKey.{NodeKey}
use Rattle.node_key.specs.declared.limits.TheConstants.{STORE_ROOMS}
use Rattle.node_key.specs.declared.stake.Stake.{Stake}
use Rattle.node_key.proofs.StakeLaws.{times-append}
use Rattle.shard_core.specs.Interning.{Drops}
use Rattle.shard_core.specs.Room.{Room}
use Rattle.shard_core.specs.declared.answers.Dropped.{Dropped}
use Rattle.shard_core.specs.declared.answers.Dropped.TheVariants.{Kept, Removed}
use Rattle.store_laws.specs.Counted.{IsStore}
use Rattle.store_laws.specs.Store.{Store}
use Rattle.store_laws.proofs.StepsAnswered.{dropped_kept, dropped_removed}
use Rattle.store_laws.proofs.StepsOfKids.{numbers}
use Rattle.store_laws.proofs.SumsOfStakes.{same_stake-true}
use Rattle.store_laws.proofs.SumsOfStakes.{times_from_there}
use Rattle.hall_world.specs.Seats.{AreFreed}

-- ---- the stakes on the kids of a key

-- stakes on kids that have the same numbers are the same
one_on_kids : (k : Kids) (xs ys : List Stake) → AreOnKids k xs → AreOnKids k ys
    → numbered k (numbers xs) ≡ numbered k (numbers ys) → xs ≡ ys
one_on_kids no_kids [] [] at_x at_y same = refl
one_on_kids no_kids (x ∷ xs) ys at_x at_y same = absurd (no_cons _ _ at_x)
one_on_kids no_kids [] (y ∷ ys) at_x at_y same = absurd (no_cons _ _ at_y)
one_on_kids (kid gap func dur inner more) [] ys at_x at_y same = absurd (no_cons _ _ (sym at_x))
one_on_kids (kid gap func dur inner more) (x ∷ xs) [] at_x at_y same = absurd (no_cons _ _ (sym at_y))
one_on_kids (kid gap func dur inner more) (x ∷ xs) (y ∷ ys) at_x at_y same =
    let first = cons_head _ _ (numbered more (numbers xs)) (numbered more (numbers ys)) same in
    let rest = cons_tail _ _ (numbered more (numbers xs)) (numbered more (numbers ys)) same in
    let number : x.number ≡ y.number = ap (λ (k : Kid). k.node) first in
    let tree : x.tree ≡ y.tree = cons_head _ _ (map (λ (s : Stake). s.tree) xs) _ at_x
    ∙ sym (cons_head _ _ (map (λ (s : Stake). s.tree) ys) _ at_y) in
    let others = one_on_kids more xs ys (cons_tail x.tree _ (map (λ (s : Stake). s.tree) xs) _ at_x)
    (cons_tail y.tree _ (map (λ (s : Stake). s.tree) ys) _ at_y) rest in
    λ i. (let s : Stake = record { number = number i; tree = tree i } in s) ∷ others i

-- a key over a tree tells the stakes on its kids
pub one_over : (t : Tree) (xs ys : List Stake) (key : NodeKey) → IsOverStakes t xs key → IsOverStakes t ys key
    → xs ≡ ys
one_over t xs ys key a b = one_on_kids t.kids xs ys a.kids b.kids (sym a.key_of.kids ∙ b.key_of.kids)

-- ---- a stake that is given back

-- a stake counts at most once in a list of one
has_by : (mine others : List Stake) (x z : Stake) (b : Bool) → same_stake z x ≡ b → Contains mine x
    → times z (x ∷ []) ≤ times z (mine ++ others)
has_by mine others x z true is there =
    let first = sum_by-cons (λ (y : Stake). one_if (same_stake z y)) x [] in
    let here = ap one_if is in
    let at = times_from_there z mine (subst (Contains mine) (sym (same_stake-true z x is)) there) in
    omega (arith, first, here, at, times-append z mine others)
has_by mine others x z false is there =
    let first = sum_by-cons (λ (y : Stake). one_if (same_stake z y)) x [] in
    let here = ap one_if is in
    omega (arith, first, here)

-- a stake is one of all
pub has_one : (mine others : List Stake) (x : Stake) → Contains mine x → HasStakes (mine ++ others) (x ∷ [])
has_one mine others x there z = has_by mine others x z (same_stake z x) refl there

-- the store is kept for a stake that is given back, whether or not its node goes
pub drops : (d : Dropped) (rooms : Store) (held left : List Stake) (x : Stake) (kids : List Stake)
    (before after : Room) → IsStore rooms held → slice_get rooms (x.number % STORE_ROOMS) ≡ Some before
    → HasStakes held (x ∷ []) → Drops before x.number d after → AreFreed x.tree d kids
    → Exchanges held left (x ∷ []) kids → IsStore (slice_set rooms (x.number % STORE_ROOMS) after) left
drops Kept rooms held left x kids before after store at has answered freed swap =
    dropped_kept rooms held left x before after store at has answered
    (subst (λ (ks : List Stake). Exchanges held left (x ∷ []) ks) freed swap)
drops (Removed key) rooms held left x kids before after store at has answered freed swap =
    let gone = dropped_removed rooms held x key before after store at has answered in
    gone.2 left (subst (λ (ks : List Stake). Exchanges held left (x ∷ []) ks)
    (one_over x.tree kids gone.0 key freed gone.1) swap)
