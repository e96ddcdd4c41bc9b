use Rattle.paje_lex.proofs.LineSteps.{quoted_found, quoted_open}
use Rattle.paje_lex.proofs.line.quoted.Goals as goal

pub returns-in-Some-clause-ends : goal.returns-in-Some-clause-ends
returns-in-Some-clause-ends c =
    quoted_found c.args.line.now c.args.quote c.in-Some.len c.in-Some.ensures.0 c.in-Some.ensures.1

pub returns-in-None-clause-ends : goal.returns-in-None-clause-ends
returns-in-None-clause-ends c = quoted_open c.args.line.now c.args.quote c.in-None.ensures
