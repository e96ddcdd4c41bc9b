use Rattle.call_tree.proofs.TreeBounds.{trees_are_bounded}
use Rattle.call_tree.proofs.laws.bounds_of_trees.Goals as goal

pub returns : goal.returns
returns c = trees_are_bounded
