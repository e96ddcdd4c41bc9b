use Rattle.hall_trait.specs.Reach.{KeepsReach}
use Rattle.hall_trait.specs.View.{GoesOn}
use Rattle.builders.proofs.Interning.{Releasing}
use Rattle.builders.proofs.nodes.release_all.Given as goal

abbrev pub invariant-loop-item : goal.invariant-loop-item
invariant-loop-item g l = record {
  releasing : Releasing (g.H.Hall.view l.fn.hall).seat (g.H.Hall.view l.hall).seat l.items l.item-index;
  reach : KeepsReach (g.H.Hall.view l.hall).seat (g.H.Hall.reaches l.fn.hall) (g.H.Hall.reaches l.hall);
  rest : GoesOn (g.H.Hall.view l.fn.hall) (g.H.Hall.view l.hall);
}
