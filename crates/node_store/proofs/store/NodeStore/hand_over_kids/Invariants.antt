use Rattle.node_store.proofs.KidLoops.{IsHandingOn}
use Rattle.node_store.proofs.store.NodeStore.hand_over_kids.Given as goal

abbrev pub invariant-loop-kid : goal.invariant-loop-kid
invariant-loop-kid l = IsHandingOn l.fn.self l.self l.kid-items l.kid-index
