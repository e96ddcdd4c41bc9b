use Rattle.hall_trait.specs.Reach.{HasSource, Source}
use Rattle.builders.specs.Reads.{OnlyReads}
use Rattle.builders.proofs.KeyReading.{ReadingKids}
use Rattle.builders.proofs.reading.+push_events.Given as goal

abbrev pub decreases-push_events : goal.decreases-push_events
decreases-push_events g l = l.key.now.height

abbrev pub invariant-loop-i : goal.invariant-loop-i
invariant-loop-i g l = record {
  reading : (by_what : Source) → HasSource (g.H.Hall.view l.fn.hall).seat by_what
      → ReadingKids (g.H.Hall.reaches l.fn.hall by_what) (g.H.Hall.reaches l.hall by_what) l.key l.fn.at
      l.initial.list l.list l.from l.i;
  rest : OnlyReads (g.H.Hall.view l.fn.hall) (g.H.Hall.view l.hall);
}
