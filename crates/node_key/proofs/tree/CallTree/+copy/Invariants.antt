use Rattle.std.proofs.Common.{◌≡◌, take}
use Rattle.node_key.proofs.tree.CallTree.+copy.Given as goal

abbrev pub invariant-loop-branch : goal.invariant-loop-branch
invariant-loop-branch l = l.kids ≡ take l.branch-index l.branch-items
