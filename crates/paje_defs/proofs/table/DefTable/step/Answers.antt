use Rattle.std.proofs.Common.{◌≡◌, false, sym, ◌∙◌, ap, subst}
use Rattle.paje_defs.specs.Words.{words_at_tokens}
use Rattle.paje_defs.specs.Lines.{begins_definition, ends_definition, field_reason}
use Rattle.paje_defs.specs.Table.{TakesUnless, after_field, definitions_of}
use Rattle.paje_defs.proofs.table.DefTable.step.Goals as goal

pub returns : goal.returns
returns c =
    let words = words_at_tokens c.args.line.now c.args.tokens.now in
    let old = definitions_of c.args.self.now in
    let begun : begins_definition words ≡ false = sym (c.begins.ensures
    ∙ ap begins_definition c.new-words.ensures) ∙
    c.if-begins.false in
    let ended : ends_definition words ≡ false = sym (c.ends.ensures ∙ ap ends_definition c.new-words.ensures)
    ∙ c.if-ends.false in
    rw (begun, ended)
    (subst (λ words. TakesUnless old (definitions_of c.field.new.self) c.field.result
    (field_reason old.begun words)
    (after_field old words)) c.new-words.ensures c.field.ensures)
