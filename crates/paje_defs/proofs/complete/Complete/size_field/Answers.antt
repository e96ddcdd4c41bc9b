use Rattle.std.proofs.Common.{◌∙◌, ap, slice_get}
use Rattle.std.specs.Option.{option_and_then}
use Rattle.paje_defs.specs.declared.role.Role.TheVariants.{Size}
use Rattle.paje_defs.proofs.complete.Complete.size_field.Goals as goal

pub returns-in-Some : goal.returns-in-Some
returns-in-Some c =
    c.get-in-Some.ensures
    ∙ ap (option_and_then (slice_get c.args.self.now.definition.fields)) (c.in-Some.ensures
    ∙ c.args.self.now.placed Size)

pub returns-in-None : goal.returns-in-None
returns-in-None c =
    ap (option_and_then (slice_get c.args.self.now.definition.fields)) (c.in-None.ensures
    ∙ c.args.self.now.placed Size)
