use Rattle.std.proofs.Common.{arith, subst, sym}
use Rattle.paje_print.specs.Canonical.{IsCanonical}
use Rattle.reader_tests.proofs.printing.add_written.Goals as goal

pub write_trace-text-requires : goal.write_trace-text-requires
write_trace-text-requires c = subst IsCanonical (sym c.in_ok-trace.ensures)
    (c.generated_traces_are_canonical.ensures 0 c.args.size (omega (arith, c.requires)))
