use Rattle.std.proofs.Common.{◌≡◌, length}
use Rattle.registry_core.specs.Trace.{roots_in}
use Rattle.registry_core.proofs.roots.Roots.pop.Given as goal

abbrev pub invariant-loop-track : goal.invariant-loop-track
invariant-loop-track l = roots_in l.self-inside.tracks.items ≡ l.fn.self

abbrev pub decreases-loop-track : goal.decreases-loop-track
decreases-loop-track l = length l.self-inside.tracks.items
