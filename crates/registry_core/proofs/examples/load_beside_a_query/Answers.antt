use Rattle.std.proofs.Common.{arith, refl}
use Rattle.registry_core.specs.Examples.{both, loading_trace, neither, only_first}
use Rattle.registry_core.proofs.examples.load_beside_a_query.Goals as goal

pub returns-clause-first_awaited : goal.returns-clause-first_awaited
returns-clause-first_awaited c = (loading_trace 0 neither, refl, refl, refl)

pub returns-clause-loading : goal.returns-clause-loading
returns-clause-loading c = (omega arith, loading_trace 1 only_first, refl, refl, refl, refl)

pub returns-clause-second_awaited : goal.returns-clause-second_awaited
returns-clause-second_awaited c = (loading_trace 1 only_first, refl, refl, refl)

pub returns-clause-seal_awaited : goal.returns-clause-seal_awaited
returns-clause-seal_awaited c = (loading_trace 1 both, refl, refl, refl)
