use Rattle.std.specs.Map.{values_of}
use Rattle.std.specs.Vec.{vec_capacity}
use Rattle.registry_core.proofs.RowsOfTraces.{TellsRows}
use Rattle.registry_core.proofs.traces.Traces.rows.Given as goal

abbrev pub invariant-loop-trace : goal.invariant-loop-trace
invariant-loop-trace l = TellsRows l.self (values_of l.trace-iterator) l.rows.items (vec_capacity l.rows)
