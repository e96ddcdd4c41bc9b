use Rattle.hall_tests.proofs.SampleNesting.{innermost_is}
use Rattle.hall_tests.proofs.nesting.key_of_innermost.Goals as goal

pub returns : goal.returns
returns c = innermost_is _ c.leaf.ensures.func c.leaf.ensures.dur c.leaf.ensures.height c.leaf.ensures.len
