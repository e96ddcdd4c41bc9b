use Rattle.hall_tests.proofs.SampleLoads.{adds_has, covers_at_once}
use Rattle.hall_tests.proofs.hall.open_all.Goals as goal

pub abandon-requires-clause-has : goal.abandon-requires-clause-has
abandon-requires-clause-has g c = adds_has _ _ _ c.in-Ok.ensures.answer.passes

pub abandon-requires-clause-covers : goal.abandon-requires-clause-covers
abandon-requires-clause-covers g c = covers_at_once _ _ _ _ _ c.in-Ok.ensures.answer
