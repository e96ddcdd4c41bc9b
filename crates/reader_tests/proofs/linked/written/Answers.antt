use Rattle.std.proofs.Common.{subst, sym}
use Rattle.paje_print.specs.Canonical.{IsCanonical}
use Rattle.paje_print.proofs.SmallCanonical.{linked-canonical}
use Rattle.reader_tests.proofs.linked.written.Goals as goal

pub write_trace-text-requires : goal.write_trace-text-requires
write_trace-text-requires c = subst IsCanonical (sym c.in_ok-trace.ensures) linked-canonical
