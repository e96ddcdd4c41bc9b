use Rattle.hall_tests.proofs.SampleLoads.{adds_has, covers_at_once}
use Rattle.hall_tests.proofs.samples.open_and_seal.Goals as goal

pub seal-requires-clause-has : goal.seal-requires-clause-has
seal-requires-clause-has g c = adds_has _ _ _ c.in_ok-pass.ensures.answer.passes

pub seal-requires-clause-covers : goal.seal-requires-clause-covers
seal-requires-clause-covers g c = covers_at_once _ _ _ _ _ c.in_ok-pass.ensures.answer
