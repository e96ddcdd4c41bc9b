use Rattle.std.proofs.Common.{◌≡◌, ◌++◌, drop, map}
use Rattle.std.specs.List.{enumerate_from}
use Rattle.paje_print.specs.CanonicalText.{state_type_line}
use Rattle.paje_print.specs.WrittenWords.{lines_text}
use Rattle.paje_print.proofs.writer.add_state_types.Given as goal

abbrev pub invariant-loop-i : goal.invariant-loop-i
invariant-loop-i l = l.out.items ++ lines_text (map state_type_line (enumerate_from l.i (drop l.i l.kinds)))
    ≡ l.fn.out.items ++ lines_text (map state_type_line (enumerate_from 0 l.kinds))
