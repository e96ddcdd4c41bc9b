use Rattle.std.proofs.Common.{◌∙◌, sym, ap, arith, is_none}
use Rattle.paje_defs.specs.Refusals.{when}
use Rattle.paje_lines.specs.declared.model_fault.ModelFault.TheVariants.{UnknownEntity}
use Rattle.paje_lines.specs.Containers.{container_named}
use Rattle.paje_model.proofs.FoundContainers.{container-found, container-fits}
use Rattle.paje_model.proofs.known.Known.container.Goals as goal

pub place-requires : goal.place-requires
place-requires c = c.requires.1.containers.named

pub overflow_cast-result : goal.overflow_cast-result
overflow_cast-result c = let fits = container-fits c.args.self.now c.text_of.result.now c.in-Some.place
    c.requires (sym c.place.ensures ∙ c.in-Some.is) in omega (arith, fits)

pub returns-in-Some : goal.returns-in-Some
returns-in-Some c n before known =
    let found = ap (container_named before) (sym (c.text_of.ensures n))
    ∙ (sym (container-found before c.args.self.now.containers c.text_of.result.now known.containers)
    ∙ (sym c.place.ensures ∙ c.in-Some.is)) in
    (ap (λ o. when (is_none o) (UnknownEntity c.args.role)) found, found)

pub returns-in-None : goal.returns-in-None
returns-in-None c n before known =
    ap (λ o. when (is_none o) (UnknownEntity c.args.role)) (ap (container_named before)
    (sym (c.text_of.ensures n))
    ∙ (sym (container-found before c.args.self.now.containers c.text_of.result.now known.containers)
    ∙ (sym c.place.ensures ∙ c.in-None.is)))
