use Rattle.std.proofs.Common.{refl, subst, sym}
use Rattle.registry_core.specs.Examples.{loading_trace, only_first}
use Rattle.registry_core.specs.Loading.{IsLoadingTrace}
use Rattle.core_tests.proofs.registry.give_up_in_use.Goals as goal

pub abandon-requires : goal.abandon-requires
abandon-requires g c =
    subst (λ r. IsLoadingTrace r 1) (sym c.requires) (loading_trace 1 only_first, refl, refl)
