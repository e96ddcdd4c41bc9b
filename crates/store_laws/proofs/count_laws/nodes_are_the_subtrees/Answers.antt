use Rattle.store_laws.proofs.SubtreesCount.{as_many_nodes}
use Rattle.store_laws.proofs.count_laws.nodes_are_the_subtrees.Goals as goal

pub returns : goal.returns
returns c = as_many_nodes
