-- The stakes so far are on the first kids.
use Rattle.hall_core.proofs.KidStakes.{KidStakes}
use Rattle.hall_core.proofs.stakes.kid_stakes.Given as goal

abbrev pub invariant-loop-i : goal.invariant-loop-i
invariant-loop-i l = KidStakes l.key l.tree l.kids.items l.i
