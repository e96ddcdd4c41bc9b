-- The items so far are those of the first kids.
use Rattle.hall_core.proofs.StakedItems.{ItemsSoFar}
use Rattle.hall_core.proofs.stakes.staked_tree.Given as goal

abbrev pub invariant-loop-kid : goal.invariant-loop-kid
invariant-loop-kid l = ItemsSoFar l.stakes l.key l.items l.from l.kid-index
