use Rattle.std.proofs.Common.{◌≡◌, ◌++◌, []}
use Rattle.std.specs.Vec.Iter.{into_iter_items}
use Rattle.builders.specs.View.{GoesOnWorking}
use Rattle.trace_session.proofs.Loading.{Loading}
use Rattle.trace_session.proofs.load.publish_all.Given as goal

abbrev pub invariant-loop-s : goal.invariant-loop-s
invariant-loop-s g l = record {
  loading : Loading (g.H.Hall.view l.fn.hall) (g.H.Hall.view l.hall) l.fn.pass.id l.fn.tracks l.yielded
      l.pass;
  stakes : (g.H.Hall.view l.hall).seat.stakes ≡ [];
  rest : l.yielded ++ into_iter_items l.s-iterator ≡ l.fn.tracks;
  goes_on : GoesOnWorking (g.H.Hall.view l.fn.hall) (g.H.Hall.view l.hall);
}
