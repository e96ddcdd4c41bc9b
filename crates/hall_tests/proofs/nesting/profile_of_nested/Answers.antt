use Rattle.hall_tests.proofs.SampleNesting.{profile_of_nested}
use Rattle.hall_tests.proofs.nesting.profile_of_nested.Goals as goal

pub returns : goal.returns
returns c = profile_of_nested c.args.count c.in_ok-rows.rows c.requires.some c.in_ok-rows.ensures
