use Rattle.std.proofs.Common.{refl, sym, ◌∙◌, ap}
use Rattle.paje_defs.specs.Words.{words_at_tokens}
use Rattle.paje_reader.specs.LineReasons.{definition_lines}
use Rattle.paje_reader.specs.TextLines.{defines}
use Rattle.paje_reader.proofs.LinesRead.{defined, undefined_line}
use Rattle.paje_reader.proofs.reader.Reader.define.Goals as goal

pub returns-in_err-line : goal.returns-in_err-line
returns-in_err-line c = λ before line read at is.
    undefined_line before line c.args.self.now _ _ c.from_residual.result c.args.number
    (words_at_tokens c.args.line.now c.as_slice.result.now) c.in_err-line.field-0.0 read
    (is ∙ ap (λ ts. defines (words_at_tokens c.args.line.now ts)) (sym c.as_slice.ensures))
    (c.in_err-line.ensures.so_far (definition_lines before) read.definitions)
    c.from_residual.ensures.1

pub returns : goal.returns
returns c = λ before line read at is.
    defined (Unit {0}) before line c.args.self.now
    (record {
      definitions = c.line.new.self;
      entities = c.args.self.now.entities;
      tokens =
          c.args.self.now.tokens;
    })
    c.args.number (words_at_tokens c.args.line.now c.as_slice.result.now) c.in_ok-line.field-0 read at
    (is ∙ ap (λ ts. defines (words_at_tokens c.args.line.now ts)) (sym c.as_slice.ensures))
    (c.in_ok-line.ensures.so_far (definition_lines before) read.definitions) refl
