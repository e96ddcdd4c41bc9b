use Rattle.std.proofs.Common.{length}
use Rattle.paje_reader.proofs.TextRead.{IsReading}
use Rattle.paje_reader.proofs.read.read_lines.Given as goal

abbrev pub invariant-loop-rest : goal.invariant-loop-rest
invariant-loop-rest l = IsReading l.text l.rest l.number l.reader

abbrev pub decreases-loop-rest : goal.decreases-loop-rest
decreases-loop-rest l = length l.rest
