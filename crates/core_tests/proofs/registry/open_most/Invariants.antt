use Rattle.registry_core.specs.Examples.{HasLesserIds}
use Rattle.core_tests.proofs.registry.open_most.Given as goal

abbrev pub invariant-loop-k : goal.invariant-loop-k
invariant-loop-k g l = HasLesserIds l.registry
