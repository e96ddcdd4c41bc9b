use Rattle.memo_core.proofs.RunLaws.{filled_or_nothing, answers_what_was_filled}
use Rattle.memo_core.proofs.laws.filled_or_nothing.Goals as goal

pub returns-clause-kept : goal.returns-clause-kept
returns-clause-kept c uses items n kind run = filled_or_nothing n kind uses items run

pub returns-clause-answered : goal.returns-clause-answered
returns-clause-answered c uses items new n kind e run answer =
    answers_what_was_filled n kind uses items e run answer.0
