-- The stakes on the kids so far are taken.
use Rattle.std.proofs.Common.{◌≡◌}
use Rattle.std.specs.Vec.{vec_capacity}
use Rattle.hall_core.proofs.StakesTaken.{KidsTaken}
use Rattle.hall_core.proofs.stakes.take_kids.Given as goal

abbrev pub invariant-loop-kid : goal.invariant-loop-kid
invariant-loop-kid l = record {
  taken : KidsTaken l.key l.fn.stakes.items l.stakes.items l.kid-index;
  space : vec_capacity l.stakes ≡ vec_capacity l.fn.stakes;
}
