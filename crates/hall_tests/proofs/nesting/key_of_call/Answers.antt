use Rattle.hall_tests.proofs.SampleNesting.{over_next}
use Rattle.hall_tests.proofs.nesting.key_of_call.Goals as goal

pub returns : goal.returns
returns c = over_next c.args.func c.args.inner _ c.requires.some c.over.ensures.func c.over.ensures.dur
    c.over.ensures.height c.over.ensures.len c.over.ensures.kids
