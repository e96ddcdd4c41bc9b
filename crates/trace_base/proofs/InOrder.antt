-- The different items of a list in a total order: they rise, they are the list's items, and no other list has
-- both.
use Rattle.std.proofs.Common.{◌≡◌, ◌↔◌, List, []}
use Rattle.std.proofs.Common.{inl, inr, arith}
use Rattle.std.specs.Cmp.{IsTotalOrder}
use Rattle.std.specs.List.{Contains}
use Rattle.std.specs.declared.cmp.Ordering.{Ordering}
use Rattle.std.specs.declared.cmp.Ordering.TheVariants.{Equal}
use Rattle.list_lemmas.proofs.InOrder.{fold-adds, fold-has, fold-rises, sorted-none}
use Rattle.trace_base.specs.InOrder.{distinct_in_order, IsRisingListOf}

-- ---- all keys

distinct-none : {K : Type 0} (cmp : K → K → Ordering) (xs : List K) (x : K)
    → Contains (distinct_in_order cmp xs) x → Contains xs x
distinct-none cmp xs x c = elim (fold-has cmp [] xs x c) [
  | inl none ↦ absurd (omega (arith, none.1))
  | inr has ↦ has
]

-- the different items of a list are what they are said to be
pub distinct-rising : {K : Type 0} (cmp : K → K → Ordering) → IsTotalOrder cmp
    → ((x y : K) → cmp x y ≡ Equal → x ≡ y) → (Has : K → Type 0) (xs : List K)
    → ((x : K) → Contains xs x ↔ Has x) → IsRisingListOf cmp Has (distinct_in_order cmp xs)
distinct-rising cmp o same Has xs has = record {
  rises = fold-rises cmp o [] xs (sorted-none cmp);
  exact = λ x. (
    λ c. (has x).0 (distinct-none cmp xs x c),
    λ h. fold-adds cmp same [] xs x ((has x).1 h),
  );
}
