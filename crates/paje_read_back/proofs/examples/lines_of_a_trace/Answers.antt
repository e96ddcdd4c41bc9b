use Rattle.std.proofs.Common.{refl}
use Rattle.std.specs.Fmt.{digits}
use Rattle.paje_print.specs.WrittenEvents.{definitions_written}
use Rattle.paje_read_back.specs.ToldLines.{told_lines}
use Rattle.paje_read_back.proofs.examples.lines_of_a_trace.Goals as goal

pub returns-clause-numbers : goal.returns-clause-numbers
unfolding definitions_written told_lines digits
returns-clause-numbers c = refl

pub returns-clause-events : goal.returns-clause-events
unfolding definitions_written told_lines digits
returns-clause-events c = refl

pub returns-clause-times : goal.returns-clause-times
unfolding definitions_written told_lines digits
returns-clause-times c = refl
