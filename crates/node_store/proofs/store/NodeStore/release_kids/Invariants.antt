use Rattle.node_store.proofs.KidLoops.{IsReleasing}
use Rattle.node_store.proofs.store.NodeStore.release_kids.Given as goal

abbrev pub invariant-loop-kid : goal.invariant-loop-kid
invariant-loop-kid l = IsReleasing l.fn.self l.self l.kid-items l.kid-index
