use Rattle.std.proofs.Common.{◌∙◌, ap, refl, subst, sym}
use Rattle.std.specs.Arc.{arc_value}
use Rattle.registry_core.specs.Examples.{HasLesserIds}
use Rattle.registry_core.specs.Loading.{with_opened, with_sealed}
use Rattle.registry_core.specs.Trace.{loaded}
use Rattle.core_tests.proofs.Samples.{awaits_seal, lesser-opened, lesser-promised}
use Rattle.core_tests.proofs.registry.load_nothing.Goals as goal

pub seal-requires : goal.seal-requires
seal-requires g c = awaits_seal c.args.registry.now c.admit-opened.new.registry (arc_value c.args.info)
    c.admit-opened.result c.requires.lesser c.requires.info c.admit-opened.ensures

pub returns : goal.returns
returns g c =
    let id = c.admit-opened.result.id in
    let old = c.args.registry.now in
    let info = arc_value c.args.info in
    subst HasLesserIds (sym (c.seal.ensures.rest ∙ ap (λ r. with_sealed r id) c.admit-opened.ensures.3))
    (lesser-promised (with_opened old info) id loaded (λ t. refl) (lesser-opened old info c.requires.lesser))
