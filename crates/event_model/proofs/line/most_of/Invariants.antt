use Rattle.std.proofs.Common.{◌≡◌, take}
use Rattle.trace_base.specs.Timeline.{greatest_excl}
use Rattle.event_model.proofs.line.most_of.Given as goal

abbrev pub invariant-loop-row : goal.invariant-loop-row
invariant-loop-row l = l.most ≡ greatest_excl (take l.row-index l.rows)
