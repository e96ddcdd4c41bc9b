use Rattle.store_laws.proofs.CanonicTrees.{tree_of_node}
use Rattle.store_laws.proofs.canonic_laws.each_node_stands.Goals as goal

pub returns : goal.returns
returns c = tree_of_node
