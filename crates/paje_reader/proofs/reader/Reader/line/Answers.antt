use Rattle.std.proofs.Common.{length, sym, ◌∙◌}
use Rattle.std.proofs.lemmas.Bool.{le-ltb}
use Rattle.trace_base.specs.declared.limits.TheConstants.{MAX_TRACE_LINE}
use Rattle.paje_reader.proofs.LinesRead.{reads_skipped, skips}
use Rattle.paje_reader.proofs.reader.Reader.line.Goals as goal

pub returns-then-is_skipped : goal.returns-then-is_skipped
returns-then-is_skipped c = λ before read.
    skips before (record { number = c.args.number; bytes = c.args.bytes.now }) c.args.self.now read
    (reads_skipped c.args.number c.args.bytes.now c.without_return-line.result.now
    (le-ltb MAX_TRACE_LINE (length c.args.bytes.now) c.if-bytes-gt-MAX_TRACE_LINE.false)
    c.without_return-line.ensures (sym c.is_skipped.ensures
    ∙ c.if-is_skipped.true))
