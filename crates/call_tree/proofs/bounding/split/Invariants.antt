use Rattle.std.proofs.Common.{◌≡◌, length}
use Rattle.call_tree.proofs.BoundedLists.{Bounding}
use Rattle.call_tree.proofs.bounding.split.Given as goal

abbrev pub invariant-levels : goal.invariant-levels
invariant-levels l = record {
  bounding : Bounding l.fn.items l.bounded;
  number : l.number ≡ length l.bounded;
}

abbrev pub decreases-levels : goal.decreases-levels
decreases-levels l = l.number
