use Rattle.std.proofs.Common.{◌∙◌, ap}
use Rattle.std.specs.Option.{option_map}
use Rattle.paje_model.proofs.DeclaredEntities.{alias-line}
use Rattle.paje_model.proofs.entity_table.EntityTable.line.Goals as goal

pub returns-in-Some : goal.returns-in-Some
returns-in-Some c = ap (option_map (λ d. d.line)) c.in-Some.ensures.value
    ∙ alias-line c.args.alias.now c.args.self.now.by_alias.entries

pub returns-in-None : goal.returns-in-None
returns-in-None c = ap (option_map (λ d. d.line)) c.in-None.ensures.value
    ∙ alias-line c.args.alias.now c.args.self.now.by_alias.entries
