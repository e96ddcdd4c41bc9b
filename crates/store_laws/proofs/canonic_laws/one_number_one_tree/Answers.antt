use Rattle.store_laws.proofs.CanonicTrees.{one_tree, one_number}
use Rattle.store_laws.proofs.canonic_laws.one_number_one_tree.Goals as goal

pub returns-clause-tree : goal.returns-clause-tree
returns-clause-tree c = one_tree

pub returns-clause-number : goal.returns-clause-number
returns-clause-number c = one_number
