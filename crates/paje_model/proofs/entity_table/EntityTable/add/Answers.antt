use Rattle.std.proofs.Common.{◌∙◌, ◌++◌, ◌∷◌, [], sym, ap, cond, map, Some, None}
use Rattle.std.specs.Option.{option_or}
use Rattle.std.specs.Str.{bytes_eq}
use Rattle.paje_model.specs.EntityTable.{entities_in, entity_at}
use Rattle.paje_model.specs.Noted.{place_noted}
use Rattle.paje_model.proofs.DeclaredEntities.{entities-more, length-entities, named-more}
use Rattle.paje_model.proofs.entity_table.EntityTable.add.Goals as goal

pub returns-clause-entities : goal.returns-clause-entities
returns-clause-entities c =
    entities-more c.args.alias.now c.args.self.now.by_alias.entries c.insert.new.self.entries
    c.in_ok-alias.alias (record { name = c.in_ok-name.name; line = c.args.line }) c.in_ok-alias.ensures.items
    c.requires.new c.in_ok-insert.ensures.entries
    ∙ ap (λ name. entities_in c.args.self.now ++ record {
      alias = c.args.alias.now;
      name = name;
      line = c.args.line;
    } ∷ []) c.in_ok-name.ensures

pub returns-clause-named : goal.returns-clause-named
returns-clause-named c text =
    named-more (place_noted c.note.new.places) (entities_in c.args.self.now)
    (map entity_at c.insert.new.self.entries) (record {
      alias = c.args.alias.now;
      name = c.args.name.now;
      line = c.args.line;
    }) c.len-place.result
    (c.len-place.ensures.len ∙ sym (length-entities c.args.self.now.by_alias.entries))
    (entities-more c.args.alias.now c.args.self.now.by_alias.entries c.insert.new.self.entries
    c.in_ok-alias.alias (record { name = c.in_ok-name.name; line = c.args.line }) c.in_ok-alias.ensures.items
    c.requires.new c.in_ok-insert.ensures.entries
    ∙ ap (λ name. entities_in c.args.self.now ++ record {
      alias = c.args.alias.now;
      name = name;
      line = c.args.line;
    } ∷ []) c.in_ok-name.ensures) text
    (c.in_ok-note.ensures text ∙ ap (λ o. option_or o (cond (bytes_eq text c.args.name.now)
    (Some c.len-place.result) None)) (c.requires.named text))
