use Rattle.std.proofs.Common.{refl, sym, ◌∙◌, ap}
use Rattle.paje_defs.specs.declared.role.Role.TheVariants.{Time, Size}
use Rattle.paje_defs.specs.Words.{words_in}
use Rattle.paje_defs.specs.Events.{field_size, message_size, size_field, time_of_text, timed}
use Rattle.paje_defs.proofs.EventLaws.{has_needed}
use Rattle.paje_defs.proofs.complete.Complete.read.Goals as goal

pub returns-in-Err : goal.returns-in-Err
returns-in-Err c =
    let d = c.args.self.now.definition in
    ap (timed d) (ap time_of_text (sym (c.texts-texts.ensures Time)) ∙ (sym c.time.ensures ∙ c.in-Err.is))

pub returns : goal.returns
returns c =
    let d = c.args.self.now.definition in (
      record { definition = d; time = c.in-Ok.time },
      ap (timed d) (ap time_of_text (sym (c.texts-texts.ensures Time)) ∙ (sym c.time.ensures ∙ c.in-Ok.is)),
      refl,
      record {
        kind = refl;
        size = c.size.ensures
            ∙ ap (λ text. message_size d.event (field_size (size_field d) text)) (c.texts-texts.ensures Size);
        texts = c.texts-texts.ensures;
      },
    )

pub invariant_of-result : goal.invariant_of-result
invariant_of-result c = record {
  needed = has_needed c.args.self.now.definition (words_in c.args.words.now)
      c.texts-texts.result c.texts-texts.ensures c.requires.enough c.args.self.now.whole;
}
