use Rattle.hall_trait.specs.Reach.{KeepsReach}
use Rattle.hall_trait.specs.View.{GoesOn}
use Rattle.builders.proofs.ClosingCalls.{CallsReleasing}
use Rattle.builders.proofs.closing.release_calls.Given as goal

abbrev pub invariant-loop-call : goal.invariant-loop-call
invariant-loop-call g l = record {
  releasing : CallsReleasing (g.H.Hall.view l.fn.hall).seat (g.H.Hall.view l.hall).seat l.calls l.call-index;
  reach : KeepsReach (g.H.Hall.view l.hall).seat (g.H.Hall.reaches l.fn.hall) (g.H.Hall.reaches l.hall);
  rest : GoesOn (g.H.Hall.view l.fn.hall) (g.H.Hall.view l.hall);
}
