use Rattle.node_key.specs.Tree.{nodes}
use Rattle.store_tests.proofs.trees.+push_nodes.Given as goal

abbrev pub decreases-push_nodes : goal.decreases-push_nodes
decreases-push_nodes l = nodes l.t.now
