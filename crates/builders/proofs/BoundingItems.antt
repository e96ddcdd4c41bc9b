-- Items under way to a bounded list.
use Rattle.std.proofs.Common.{◌≡◌, ℕ, ◌+◌, ◌^◌, ◌<◌, ◌≤◌, List, [], map, length, Option, Ok, refl, sym, ap}
use Rattle.std.proofs.Common.{subst, arith, ◌∙◌}
use Rattle.node_key.specs.Bound.{bound, grouped}
use Rattle.hall_history.specs.Seat.{ExchangesStakes, Seat}
use Rattle.node_key.specs.declared.item.Item.{Item}
use Rattle.trace_base.specs.declared.limits.TheConstants.{MAX_TIME}
use Rattle.trace_base.specs.Outside.{Told}
use Rattle.trace_base.proofs.Telling.{told_as, told_same, told_then}
use Rattle.call_tree.proofs.BoundedLists.{Bounding, Bounding-low, Bounding-more, Bounding-start}
use Rattle.call_tree.proofs.Chunks.{bound-few, bound-more, length-grouped}
use Rattle.builders.specs.Built.{StoredItem, built, items_in, stakes_held}
use Rattle.builders.specs.Builds.{BuildsItems, HoldsBetween, MayBeBound, WorkOfNodes, nodes_in}
use Rattle.builders.specs.declared.built.BuiltItem.{BuiltItem}
use Rattle.builders.proofs.Bags.{exchanges-none, exchanges-then, has-given}
use Rattle.builders.proofs.ChunkGroups.{length-items}
use Rattle.builders.proofs.CountingNodes.{grows-bound}

-- the list is built, and has the bounded list of all items
pub record BoundSoFar (old now : Seat) (was work : Option ℕ) (stored : List StoredItem)
    (bounded : List BuiltItem) : Type 0 where
  pub left : List StoredItem
  pub are : bounded ≡ map built left
  pub bounding : Bounding (items_in stored) (items_in left)
  pub exchanged : ExchangesStakes old now (stakes_held stored) (stakes_held left)
  pub counted : Told was work
      (λ was now. now + nodes_in (items_in stored) ≡ was + nodes_in (items_in left))

pub record BoundingItems (old now : Seat) (was work : Option ℕ) (items bounded : List BuiltItem) (number : ℕ)
    : Type 0 where
  pub number_is : number ≡ length bounded
  pub so_far : (stored : List StoredItem) → MayBeBound old items stored
      → BoundSoFar old now was work stored bounded

pub BoundingItems-start : (old : Seat) (work : Option ℕ) (items : List BuiltItem) (number : ℕ)
    → number ≡ length items → number < 2 ^ 64 → BoundingItems old old work work items items number
BoundingItems-start old work items number e few = record {
  number_is = e;
  so_far = λ stored h. record {
    left = stored;
    are = h.are;
    bounding = Bounding-start (items_in stored) h.placed h.low
        (omega (arith, length-items items stored h.are, e, few));
    exchanged = exchanges-none old old (stakes_held stored) refl;
    counted = told_same (λ was now. now + nodes_in (items_in stored) ≡ was + nodes_in (items_in stored)) work
        work (λ n. refl) refl;
  };
}

-- what is grouped next
pub held-next : (old now : Seat) (was work : Option ℕ) (items bounded : List BuiltItem)
    (stored : List StoredItem)
    → MayBeBound old items stored → (b : BoundSoFar old now was work stored bounded)
    → HoldsBetween now 0 MAX_TIME bounded b.left
held-next old now was work items bounded stored h b = record {
  are = b.are;
  stakes = has-given old now (stakes_held stored) (stakes_held b.left) h.stakes b.exchanged;
  placed = b.bounding.placed;
  low = Bounding-low (items_in stored) (items_in b.left) b.bounding;
}

bound-more-items : (old now new : Seat) (was work work' : Option ℕ) (items bounded groups : List BuiltItem)
    (stored : List StoredItem) → 8 < length bounded → (b : BoundSoFar old now was work stored bounded)
    → BuildsItems now new (stakes_held b.left) (grouped (items_in b.left)) [] (Ok groups)
    → WorkOfNodes work work' (nodes_in (items_in b.left)) (nodes_in (grouped (items_in b.left))) (Ok groups)
    → BoundSoFar old new was work' stored groups
bound-more-items old now new was work work' items bounded groups stored more b g paid = record {
  left = g.0;
  are = g.1;
  bounding = subst (λ (is : List Item). Bounding (items_in stored) is) (sym g.2)
      (Bounding-more (items_in stored) (items_in b.left)
      (omega (arith, more, length-items bounded b.left b.are)) b.bounding);
  exchanged = exchanges-then old now new (stakes_held stored) (stakes_held b.left) (stakes_held g.0)
      b.exchanged
      g.3;
  counted = told_then (λ was now. now + nodes_in (items_in stored) ≡ was + nodes_in (items_in b.left))
      (λ was now. now + nodes_in (items_in b.left) ≡ was + nodes_in (grouped (items_in b.left)))
      (λ was now. now + nodes_in (items_in stored) ≡ was + nodes_in (items_in g.0)) was work work'
      (λ x y z p q. omega (arith, p, q, ap nodes_in g.2)) b.counted paid;
}

pub BoundingItems-more : (old now new : Seat) (was work work' : Option ℕ)
    (items bounded groups : List BuiltItem)
    (number number' : ℕ) → BoundingItems old now was work items bounded number → 8 < number
    → ((stored : List StoredItem) → HoldsBetween now 0 MAX_TIME bounded stored
    → BuildsItems now new (stakes_held stored) (grouped (items_in stored)) [] (Ok groups))
    → ((stored : List StoredItem) → HoldsBetween now 0 MAX_TIME bounded stored
    → WorkOfNodes work work' (nodes_in (items_in stored)) (nodes_in (grouped (items_in stored))) (Ok groups))
    → number' ≡ length groups
    → BoundingItems old new was work' items groups number'
BoundingItems-more old now new was work work' items bounded groups number number' b more built paid e =
    record {
      number_is = e;
      so_far = λ stored h. let here = b.so_far stored h in
          let held = held-next old now was work items bounded stored h here in
          bound-more-items old now new was work work' items bounded groups stored
          (omega (arith, more, b.number_is)) here (built here.left held) (paid here.left held);
    }

-- each time the list gets shorter
pub groups-fewer : (old now new : Seat) (was work : Option ℕ) (items bounded groups : List BuiltItem)
    (stored : List StoredItem) → 8 < length bounded → (b : BoundSoFar old now was work stored bounded)
    → BuildsItems now new (stakes_held b.left) (grouped (items_in b.left)) [] (Ok groups)
    → length groups < length bounded
groups-fewer old now new was work items bounded groups stored more b g =
    omega (
      arith,
      more,
      length-items bounded b.left b.are,
      length-items groups g.0 g.1,
      ap length g.2,
      length-grouped (items_in b.left),
    )

-- the list that is left is the bounded one
left-bound : (old now : Seat) (was work : Option ℕ) (bounded : List BuiltItem) (stored : List StoredItem)
    → length bounded ≤ 8 → (b : BoundSoFar old now was work stored bounded)
    → items_in b.left ≡ bound (items_in stored)
left-bound old now was work bounded stored few b =
    sym (bound-few (items_in b.left) (omega (arith, few, length-items bounded b.left b.are)))
    ∙ b.bounding.same

pub BoundingItems-end : (old now : Seat) (was work : Option ℕ) (items bounded : List BuiltItem)
    (stored : List StoredItem) → length bounded ≤ 8 → BoundSoFar old now was work stored bounded
    → BuildsItems old now (stakes_held stored) (bound (items_in stored)) [] (Ok bounded)
BoundingItems-end old now was work items bounded stored few b = (
  b.left,
  b.are,
  left-bound old now was work bounded stored few b,
  b.exchanged,
)

pub BoundingItems-work : (old now : Seat) (was work : Option ℕ) (items bounded : List BuiltItem)
    (stored : List StoredItem) → length bounded ≤ 8 → BoundSoFar old now was work stored bounded
    → WorkOfNodes was work (nodes_in (items_in stored)) (nodes_in (bound (items_in stored))) (Ok bounded)
BoundingItems-work old now was work items bounded stored few b =
    told_as (λ was now. now + nodes_in (items_in stored) ≡ was + nodes_in (items_in b.left))
    (λ was now. now + nodes_in (items_in stored) ≡ was + nodes_in (bound (items_in stored))) was work
    (λ x y p. omega (arith, p, ap nodes_in (left-bound old now was work bounded stored few b))) b.counted

-- where the next groups are refused, at most the nodes of the bounded list were made
pub bounding-refused : (old now : Seat) (was work work' : Option ℕ) (bounded : List BuiltItem)
    (stored : List StoredItem) → 8 < length bounded → (b : BoundSoFar old now was work stored bounded)
    → Told work work'
    (λ was now. now + nodes_in (items_in b.left) ≤ was + nodes_in (grouped (items_in b.left)))
    → Told was work' (λ was now. now + nodes_in (items_in stored) ≤ was + nodes_in (bound (items_in stored)))
bounding-refused old now was work work' bounded stored more b idle =
    let left = items_in b.left in
    let same : bound (grouped left) ≡ bound (items_in stored) =
    sym (bound-more left (omega (arith, more, length-items bounded b.left b.are))) ∙ b.bounding.same in
    told_then (λ was now. now + nodes_in (items_in stored) ≡ was + nodes_in left)
    (λ was now. now + nodes_in left ≤ was + nodes_in (grouped left))
    (λ was now. now + nodes_in (items_in stored) ≤ was + nodes_in (bound (items_in stored))) was work work'
    (λ x y z p q. omega (arith, p, q, grows-bound (grouped left), ap nodes_in same)) b.counted idle
