use Rattle.std.proofs.Common.{length}
use Rattle.std.specs.Vec.Iter.{into_iter_items}
use Rattle.call_tree.proofs.Grouping.{Grouping}
use Rattle.call_tree.proofs.group.grouped_of.Given as goal

abbrev pub invariant-chunks : goal.invariant-chunks
invariant-chunks l = Grouping l.fn.items l.groups (into_iter_items l.left)

abbrev pub decreases-chunks : goal.decreases-chunks
decreases-chunks l = length (into_iter_items l.left)
