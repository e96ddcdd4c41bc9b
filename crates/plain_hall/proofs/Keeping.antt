-- A store keeps what it keeps for the same stakes in any order; and the rooms of a store in order.
use Rattle.std.proofs.Common.{◌≡◌, ◌⊎◌, inl, inr, ◌+◌, List, [], ◌∷◌, ◌++◌}
use Rattle.std.proofs.Common.{ap, ◌∙◌, arith, Contains}
use Rattle.std.specs.List.{AllZip}
use Rattle.std.specs.Prelude.{◌≤◌}
use Rattle.node_key.specs.Stakes.{Exchanges, times}
use Rattle.node_key.specs.declared.stake.Stake.{Stake}
use Rattle.node_key.proofs.StakeLaws.{times-append}
use Rattle.shard_core.specs.Room.{Room}
use Rattle.hall_trait.proofs.Views.{Later, later_same}
use Rattle.store_laws.specs.Counted.{IsStore, stakes_on}
use Rattle.store_laws.specs.Store.{Store}
use Rattle.store_laws.proofs.SumsOfStakes.{from_either, stakes_exchanged}
use Rattle.node_store.specs.Given.{stakes_of}
use Rattle.node_store.specs.Kept.{KeepsFor, NodesKept}

pub times_first : (x y : Stake) (ys : List Stake) → times x (y ∷ ys) ≡ times x (y ∷ []) + times x ys
times_first x y ys = times-append x (y ∷ []) ys

-- stakes in another order
store_same : (rooms : Store) (held left : List Stake) → Exchanges held left [] [] → IsStore rooms held
    → IsStore rooms left
store_same rooms held left swap store = record {
  canonic = store.canonic;
  counted = record {
    stands = λ x there. store.counted.stands x (was_there x (from_either held left [] [] x swap there));
    counts = λ n s at. let same : stakes_on n held ≡ stakes_on n left =
        let e = stakes_exchanged n held left [] [] swap in omega (arith, e)
        in store.counted.counts n s at ∙ ap (λ k. k + Rattle.store_laws.specs.Counted.kid_places rooms n) same;
  };
}
  where
    was_there : (x : Stake) → Contains held x ⊎ Contains {X = Stake} [] x → Contains held x
    was_there x (inl there) = there
    was_there x (inr there) = absurd (omega (arith, there.1))

pub keeps_same : (s : NodesKept) (xs ys : List Stake) → ((x : Stake) → times x xs ≡ times x ys) → KeepsFor s xs
    → KeepsFor s ys
keeps_same s xs ys same = store_same s.rooms (stakes_of s.given ++ xs) (stakes_of s.given ++ ys) (λ x.
    omega (arith, same x, times-append x (stakes_of s.given) xs, times-append x (stakes_of s.given) ys))

-- ---- rooms

pub nexts_stay : (old new : List Room) → new ≡ old → Later old new
nexts_stay old new same = rw same (later_same old)
