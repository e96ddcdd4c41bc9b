use Rattle.std.proofs.Common.{◌≡◌, ◌++◌, drop, map}
use Rattle.std.specs.List.{enumerate_from}
use Rattle.paje_print.specs.CanonicalText.{create_line}
use Rattle.paje_print.specs.WrittenWords.{lines_text}
use Rattle.paje_print.proofs.writer.add_creates.Given as goal

abbrev pub invariant-loop-i : goal.invariant-loop-i
invariant-loop-i l = l.out.items ++ lines_text (map create_line (enumerate_from l.i (drop l.i l.containers)))
    ≡ l.fn.out.items ++ lines_text (map create_line (enumerate_from 1 (drop 1 l.containers)))
