use Rattle.hall_trait.specs.Reach.{KeepsReach}
use Rattle.builders.specs.View.{GoesOnWorking}
use Rattle.builders.proofs.BuildingTrack.{BuildingTrack}
use Rattle.builders.proofs.building.build_track.Given as goal

abbrev pub invariant-loop-event : goal.invariant-loop-event
invariant-loop-event g l = record {
  building : BuildingTrack l.s (g.H.Hall.view l.fn.hall).seat (g.H.Hall.view l.hall).seat
      (g.H.Hall.view l.fn.hall).account.work
      (g.H.Hall.view l.hall).account.work l.around.items l.innermost l.event-index;
  reach : KeepsReach (g.H.Hall.view l.fn.hall).seat (g.H.Hall.reaches l.fn.hall) (g.H.Hall.reaches l.hall);
  rest : GoesOnWorking (g.H.Hall.view l.fn.hall) (g.H.Hall.view l.hall);
}
