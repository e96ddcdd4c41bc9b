use Rattle.std.proofs.Common.{arith}
use Rattle.hall_tests.proofs.SampleNesting.{rows_more}
use Rattle.hall_tests.proofs.nesting.rows_of_nested.Goals as goal

pub loop-func-preserved : goal.loop-func-preserved
loop-func-preserved c =
    rows_more c.loop-func.func c.loop-func.rows _ (omega arith) c.loop-func.invariant c.in_ok-push.ensures.ok
