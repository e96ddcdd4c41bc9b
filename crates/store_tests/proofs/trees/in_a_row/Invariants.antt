use Rattle.std.proofs.Common.{◌≤◌, ◌-◌, All}
use Rattle.node_key.specs.Items.{FitBetween}
use Rattle.node_key.specs.Tree.{height}
use Rattle.node_key.specs.declared.limits.TheConstants.{MAX_HEIGHT, MAX_KIDS}
use Rattle.store_tests.proofs.trees.in_a_row.Given as goal

abbrev pub invariant-loop-at : goal.invariant-loop-at
invariant-loop-at l = record {
  placed : FitBetween 0 l.at l.items;
  low : All (λ i. height i.tree ≤ MAX_HEIGHT - MAX_KIDS) l.items;
}
