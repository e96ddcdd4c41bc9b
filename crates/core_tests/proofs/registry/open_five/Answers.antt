use Rattle.std.proofs.Common.{[], ◌∷◌, ◌∙◌, ap, subst, sym}
use Rattle.registry_core.specs.Examples.{KeepsTraces, no_tracks_but}
use Rattle.registry_core.specs.Loading.{with_opened}
use Rattle.core_tests.proofs.Samples.{five_kept}
use Rattle.core_tests.proofs.registry.open_five.Goals as goal

pub returns : goal.returns
returns g c =
    let first = no_tracks_but c.in_ok-two_names.field-0 in
    let second = no_tracks_but c.in_ok-two_names-2.field-0 in
    let third = no_tracks_but c.in_ok-two_names-3.field-0 in
    let fourth = no_tracks_but c.in_ok-one_name.field-0 in
    let fifth = no_tracks_but c.in_ok-two_names-4.field-0 in
    subst (λ r. KeepsTraces r (1 ∷ 2 ∷ 3 ∷ 4 ∷ 5 ∷ []))
    (sym (c.in_ok-open_with-5.ensures
    ∙ ap (λ r. with_opened r fifth) (c.in_ok-open_with-4.ensures
    ∙ ap (λ r. with_opened r fourth) (c.in_ok-open_with-3.ensures
    ∙ ap (λ r. with_opened r third) (c.in_ok-open_with-2.ensures
    ∙ ap (λ r. with_opened r second) (c.in_ok-open_with.ensures
    ∙ ap (λ r. with_opened r first) c.requires))))))
    (five_kept first second third fourth fifth)
