use Rattle.paje_model.specs.StandsFor.{IsOpen}
use Rattle.reader_tests.proofs.entities.tell_round.Given as goal

abbrev pub invariant-loop-line : goal.invariant-loop-line
invariant-loop-line l = IsOpen l.entities
