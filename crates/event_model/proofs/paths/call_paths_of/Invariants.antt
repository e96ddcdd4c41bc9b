use Rattle.event_model.proofs.PathRows.{HasPaths}
use Rattle.event_model.proofs.paths.call_paths_of.Given as goal

abbrev pub invariant-loop-event : goal.invariant-loop-event
invariant-loop-event l = HasPaths l.s l.event-index l.stack.items l.paths.keys
