use Rattle.std.proofs.Common.{◌∙◌, ap, ap₂, refl, subst, sym}
use Rattle.registry_core.specs.Examples.{two_tracks}
use Rattle.registry_core.specs.Loading.{IsLoadingTrace, with_opened, with_published}
use Rattle.registry_core.specs.Trace.{just_opened, with_root}
use Rattle.core_tests.proofs.registry.give_up_unused.Goals as goal

pub abandon-requires : goal.abandon-requires
abandon-requires g c = subst (λ r. IsLoadingTrace r 2)
    (sym (c.publish.ensures.rest ∙ ap (λ r. with_published r 2 1 2 40)
    (c.admit-opened.ensures.3 ∙ ap₂ with_opened c.requires c.in_ok-of_two_tracks.ensures)))
    (with_root 1 (record { start = 2; root = 40; place = 6 }) (just_opened 2 two_tracks), refl, refl)
