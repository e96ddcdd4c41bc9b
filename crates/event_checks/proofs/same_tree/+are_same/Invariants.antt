use Rattle.node_key.specs.Tree.{nodes}
use Rattle.event_checks.proofs.SameTrees.{SameBelow}
use Rattle.event_checks.proofs.same_tree.+are_same.Given as goal

abbrev pub decreases-are_same : goal.decreases-are_same
decreases-are_same l = nodes l.a.now

abbrev pub invariant-loop-i : goal.invariant-loop-i
invariant-loop-i l = SameBelow l.a.kids l.b.kids l.i
