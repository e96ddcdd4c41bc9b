use Rattle.std.proofs.Common.{subst, sym}
use Rattle.registry_core.specs.Examples.{HasLesserIds}
use Rattle.core_tests.proofs.Samples.{lesser-started}
use Rattle.core_tests.proofs.registry.open_most.Goals as goal

pub loop-k-init : goal.loop-k-init
loop-k-init g c = subst HasLesserIds (sym c.requires.empty) (lesser-started 0 1)

pub load_nothing-requires-clause-lesser : goal.load_nothing-requires-clause-lesser
load_nothing-requires-clause-lesser g c = c.loop-k.invariant

pub loop-k-preserved : goal.loop-k-preserved
loop-k-preserved g c = c.load_nothing.ensures

pub close_unused-requires : goal.close_unused-requires
close_unused-requires g c = subst HasLesserIds (sym c.admit_in_vain.ensures) c.loop-k.invariant
