use Rattle.std.proofs.Common.{◌∙◌, ap, position}
use Rattle.std.specs.Option.{option_and_then, option_or}
use Rattle.paje_defs.specs.Definition.{is_named, place_of_name}
use Rattle.paje_defs.specs.Role.{second_name}
use Rattle.paje_defs.proofs.definition.place.Goals as goal

pub returns-in-Some-second_name-clause-place : goal.returns-in-Some-second_name-clause-place
returns-in-Some-second_name-clause-place c =
    let fields = c.args.fields.now in
    let second = option_and_then (place_of_name fields) (second_name c.args.event c.args.role) in
    c.position-in-Some-second_name.ensures.place
    ∙ (ap (option_and_then (place_of_name fields)) c.in-Some-second_name.ensures
    ∙ ap (λ o. option_or o second) (c.in-None.ensures.place ∙ ap (λ name. position (is_named name) fields)
    c.first_name.ensures))
