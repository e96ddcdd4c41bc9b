use Rattle.paje_read_back.proofs.LinesReadBack.{event-line-read, lines-cut}
use Rattle.paje_read_back.proofs.ToldText.{lines-tell, text-unrefused}
use Rattle.paje_read_back.proofs.printed_law.printed_lines_tell_the_trace.Goals as goal

pub returns-clause-lines : goal.returns-clause-lines
returns-clause-lines c t is = lines-tell t is (lines-cut t is) (event-line-read t is)

pub returns-clause-unrefused : goal.returns-clause-unrefused
returns-clause-unrefused c t is = text-unrefused t is (lines-cut t is) (event-line-read t is)
