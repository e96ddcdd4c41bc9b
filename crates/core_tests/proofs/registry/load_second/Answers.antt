use Rattle.std.proofs.Common.{refl, ap, subst, sym, ◌∙◌}
use Rattle.registry_core.specs.Examples.{both, loading_trace, only_first}
use Rattle.registry_core.specs.Loading.{AwaitsSeal, AwaitsTrack, with_published}
use Rattle.core_tests.proofs.registry.load_second.Goals as goal

pub publish-requires : goal.publish-requires
publish-requires g c =
    subst (λ r. AwaitsTrack r 1 1) (sym c.requires) (loading_trace 1 only_first, refl, refl, refl)

pub seal-requires : goal.seal-requires
seal-requires g c = subst (λ r. AwaitsSeal r 1)
    (sym (c.publish.ensures.rest ∙ ap (λ r. with_published r 1 1 2 41) c.requires))
    (loading_trace 1 both, refl, refl, refl)
