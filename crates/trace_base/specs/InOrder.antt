-- The different items of a list, in an order.
use Rattle.std.specs.Prelude.{◌↔◌, List, [], fold}
use Rattle.std.specs.BTreeSet.{insert_key}
use Rattle.std.specs.List.{Contains}
use Rattle.std.specs.List.Sorted.{IsStrictlySortedBy}
use Rattle.std.specs.declared.cmp.Ordering.{Ordering}

-- each item of the list once, in the order; of items that the order ties, the first
abbrev pub distinct_in_order : {K : Type 0} → (K → K → Ordering) → List K → List K
distinct_in_order cmp xs = fold (insert_key cmp) [] xs

-- the list rises strictly in the order, and has exactly the items of which the fact holds
pub record IsRisingListOf {K : Type 0} (cmp : K → K → Ordering) (Has : K → Type 0) (xs : List K) : Type 0
  where
    pub rises : IsStrictlySortedBy cmp xs
    pub exact : (x : K) → Contains xs x ↔ Has x
