use Rattle.paje_model.specs.StandsFor.{IsOpen}
use Rattle.reader_tests.proofs.entities.add_limit.Given as goal

abbrev pub invariant-loop-n : goal.invariant-loop-n
invariant-loop-n l = IsOpen l.entities
