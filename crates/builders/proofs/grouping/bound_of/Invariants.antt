use Rattle.std.proofs.Common.{List}
use Rattle.builders.specs.Beside.{KeepsOthers}
use Rattle.builders.specs.Built.{StoredItem, stakes_held}
use Rattle.builders.specs.Builds.{MayBeBound}
use Rattle.builders.specs.View.{GoesOnWorking}
use Rattle.builders.proofs.BoundingItems.{BoundingItems}
use Rattle.builders.proofs.grouping.bound_of.Given as goal

abbrev pub invariant-levels : goal.invariant-levels
invariant-levels g l = record {
  bounding : BoundingItems (g.H.Hall.view l.fn.hall).seat (g.H.Hall.view l.hall).seat
      (g.H.Hall.view l.fn.hall).account.work
      (g.H.Hall.view l.hall).account.work l.fn.items l.bounded l.number;
  reach : (stored : List StoredItem) → MayBeBound (g.H.Hall.view l.fn.hall).seat l.fn.items stored
      → KeepsOthers (g.H.Hall.view l.fn.hall).seat (stakes_held stored) (g.H.Hall.reaches l.fn.hall)
      (g.H.Hall.reaches l.hall);
  rest : GoesOnWorking (g.H.Hall.view l.fn.hall) (g.H.Hall.view l.hall);
}

abbrev pub decreases-levels : goal.decreases-levels
decreases-levels g l = l.number
