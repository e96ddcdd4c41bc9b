use Rattle.paje_read_back.proofs.TraceSaid.{none-refused, trace-said}
use Rattle.paje_read_back.proofs.printed_law.told_lines_say_the_trace.Goals as goal

pub returns-clause-unrefused : goal.returns-clause-unrefused
returns-clause-unrefused c = none-refused

pub returns-clause-said : goal.returns-clause-said
returns-clause-said c = trace-said
