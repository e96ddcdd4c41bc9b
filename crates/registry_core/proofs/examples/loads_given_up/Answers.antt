use Rattle.std.proofs.Common.{arith, refl}
use Rattle.registry_core.specs.Examples.{loading_trace, only_first}
use Rattle.registry_core.proofs.examples.loads_given_up.Goals as goal

pub returns-clause-kept : goal.returns-clause-kept
returns-clause-kept c = (loading_trace 1 only_first, refl, omega arith, refl, refl)

pub returns-clause-ended : goal.returns-clause-ended
returns-clause-ended c = (loading_trace 0 only_first, refl, refl, refl, refl, refl)
