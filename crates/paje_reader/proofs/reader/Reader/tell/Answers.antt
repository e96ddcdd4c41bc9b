use Rattle.std.proofs.Common.{inr, refl, sym, ◌∙◌, ap}
use Rattle.paje_defs.specs.Words.{words_at_tokens}
use Rattle.paje_reader.specs.declared.why.Why.TheVariants.{Unended}
use Rattle.paje_reader.specs.LineReasons.{event_lines}
use Rattle.paje_reader.specs.Why.{why_of_event}
use Rattle.paje_reader.specs.TextLines.{tells}
use Rattle.paje_reader.proofs.LinesRead.{behind, from_why, inside, refused_event, taken_event, untold}
use Rattle.paje_reader.proofs.reader.Reader.tell.Goals as goal

pub returns-then-is_inside : goal.returns-then-is_inside
returns-then-is_inside c = λ before line read at is.
    inr (
      Unended,
      refl,
      inside before line c.args.self.now
          (words_at_tokens c.args.line.now c.args.self.now.tokens) read is (sym c.is_inside.ensures
          ∙ c.if-is_inside.true),
    )

pub returns-in_err-fields : goal.returns-in_err-fields
returns-in_err-fields c = λ before line read at is.
    from_why (behind before line) _ c.from_residual.result (why_of_event c.in_err-fields.field-0.0)
    c.from_residual.ensures.1
    (untold before line c.args.self.now (words_at_tokens c.args.line.now c.as_slice.result.now)
    c.in_err-fields.field-0.0 read (is ∙ ap (λ ts. tells (words_at_tokens c.args.line.now ts))
    (sym c.as_slice.ensures)) (sym c.is_inside.ensures ∙ c.if-is_inside.false)
    c.in_err-fields.ensures.exact)

pub returns-in_err-apply : goal.returns-in_err-apply
returns-in_err-apply c = λ before line read at is.
    refused_event before line c.args.self.now _ c.from_residual-in_err-apply.result
    (words_at_tokens c.args.line.now c.as_slice.result.now)
    c.args.number c.in_ok-fields.fields c.in_err-apply.field-0.0 c.apply.new.self read at (is
    ∙ ap (λ ts. tells (words_at_tokens c.args.line.now ts)) (sym c.as_slice.ensures))
    (sym c.is_inside.ensures ∙ c.if-is_inside.false) c.in_ok-fields.ensures.exact
    (c.in_err-apply.ensures.exact (event_lines before) read.entities)
    c.from_residual-in_err-apply.ensures.1

pub returns : goal.returns
returns c = λ before line read at is.
    taken_event (Unit {0}) before line c.args.self.now _ (words_at_tokens c.args.line.now
    c.as_slice.result.now)
    c.args.number c.in_ok-fields.fields c.in_ok-apply.field-0 c.apply.new.self read at (is
    ∙ ap (λ ts. tells (words_at_tokens c.args.line.now ts)) (sym c.as_slice.ensures))
    (sym c.is_inside.ensures ∙ c.if-is_inside.false) c.in_ok-fields.ensures.exact
    (c.in_ok-apply.ensures.exact (event_lines before) read.entities) refl
