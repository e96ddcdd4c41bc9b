use Rattle.std.proofs.Common.{◌∙◌, ap, position}
use Rattle.std.specs.Option.{option_or}
use Rattle.paje_lines.specs.Found.{has_name}
use Rattle.paje_model.specs.EntityTable.{entities_in}
use Rattle.paje_model.proofs.DeclaredEntities.{alias-place}
use Rattle.paje_model.proofs.entity_table.EntityTable.place.Goals as goal

pub returns-in-Some : goal.returns-in-Some
returns-in-Some c = ap (λ o. option_or o (position (has_name c.args.text.now) (entities_in c.args.self.now)))
    (c.in-Some.ensures.index ∙ alias-place c.args.text.now c.args.self.now.by_alias.entries)

pub returns-in-Some-get : goal.returns-in-Some-get
returns-in-Some-get c =
    c.in-Some-get.ensures.value ∙ (c.requires c.args.text.now
    ∙ ap (λ o. option_or o (position (has_name c.args.text.now) (entities_in c.args.self.now)))
    (c.in-None.ensures.index ∙ alias-place c.args.text.now c.args.self.now.by_alias.entries))

pub returns-in-None-get : goal.returns-in-None-get
returns-in-None-get c =
    c.in-None-get.ensures.value ∙ (c.requires c.args.text.now
    ∙ ap (λ o. option_or o (position (has_name c.args.text.now) (entities_in c.args.self.now)))
    (c.in-None.ensures.index ∙ alias-place c.args.text.now c.args.self.now.by_alias.entries))
