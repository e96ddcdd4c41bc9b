-- A store whose stakes are exchanged for others.
use Rattle.std.proofs.Common.{List, [], arith, inl, inr}
use Rattle.node_key.specs.Stakes.{Exchanges}
use Rattle.node_key.specs.declared.stake.Stake.{Stake}
use Rattle.store_laws.proofs.SumsOfStakes.{from_either, stakes_exchanged}
use Rattle.store_laws.specs.Counted.{IsStore}
use Rattle.store_laws.specs.Store.{Store}

-- a store keeps its stakes in any order
pub store_exchanged : (rooms : Store) (held left : List Stake) → IsStore rooms held
    → Exchanges held left [] []
    → IsStore rooms left
store_exchanged rooms held left store swap = record {
  canonic = store.canonic;
  counted = record {
    stands = λ x there. elim (from_either held left [] [] x swap there) [
      | inl before ↦ store.counted.stands x before
      | inr none ↦ absurd (omega (arith, none.1))
    ];
    counts = λ n s is. let same = stakes_exchanged n held left [] [] swap in
        omega (arith, store.counted.counts n s is, same);
  };
}
