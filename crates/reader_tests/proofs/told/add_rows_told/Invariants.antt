use Rattle.paje_model.specs.StandsFor.{IsOpen}
use Rattle.reader_tests.proofs.told.add_rows_told.Given as goal

abbrev pub invariant-loop-row : goal.invariant-loop-row
invariant-loop-row l = IsOpen l.entities
