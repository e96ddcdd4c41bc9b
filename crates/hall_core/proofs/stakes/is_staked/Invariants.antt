-- There are stakes on the kids so far.
use Rattle.store_laws.specs.Store.{kids_in}
use Rattle.hall_core.proofs.StakedKids.{StakedSoFar}
use Rattle.hall_core.proofs.stakes.is_staked.Given as goal

abbrev pub invariant-loop-kid : goal.invariant-loop-kid
invariant-loop-kid l = StakedSoFar l.stakes (kids_in l.key) l.height l.kid-index
