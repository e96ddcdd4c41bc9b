use Rattle.std.proofs.Common.{take}
use Rattle.hall_core.proofs.ReachOneStake.{NoneReaches}
use Rattle.hall_core.proofs.reach.is_reached.Given as goal

abbrev pub invariant-loop-x : goal.invariant-loop-x
invariant-loop-x l = NoneReaches l.rooms l.target (take l.x-index l.stakes)
