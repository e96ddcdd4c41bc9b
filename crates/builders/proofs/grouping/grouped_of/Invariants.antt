use Rattle.std.proofs.Common.{◌-◌, List}
use Rattle.trace_base.specs.declared.limits.TheConstants.{MAX_TIME}
use Rattle.builders.specs.Beside.{KeepsOthers}
use Rattle.builders.specs.Built.{StoredItem, stakes_held}
use Rattle.builders.specs.Builds.{HoldsBetween}
use Rattle.builders.specs.View.{GoesOnWorking}
use Rattle.builders.proofs.GroupingItems.{GroupingItems}
use Rattle.builders.proofs.grouping.grouped_of.Given as goal

abbrev pub invariant-chunks : goal.invariant-chunks
invariant-chunks g l = record {
  grouping : GroupingItems (g.H.Hall.view l.fn.hall).seat (g.H.Hall.view l.hall).seat
      (g.H.Hall.view l.fn.hall).account.work
      (g.H.Hall.view l.hall).account.work l.fn.items l.list.items l.number l.groups l.from;
  reach : (stored : List StoredItem) → HoldsBetween (g.H.Hall.view l.fn.hall).seat 0 MAX_TIME l.fn.items
      stored
      → KeepsOthers (g.H.Hall.view l.fn.hall).seat (stakes_held stored) (g.H.Hall.reaches l.fn.hall)
      (g.H.Hall.reaches l.hall);
  rest : GoesOnWorking (g.H.Hall.view l.fn.hall) (g.H.Hall.view l.hall);
}

abbrev pub decreases-chunks : goal.decreases-chunks
decreases-chunks g l = l.number - l.from
