use Rattle.hall_core.specs.World.{IsGood}
use Rattle.core_tests.proofs.turns.take_all.Given as goal

abbrev pub invariant-loop-turn : goal.invariant-loop-turn
invariant-loop-turn g l = IsGood l.w
