use Rattle.profile_laws.proofs.TreesComplete.{complete-tree}
use Rattle.profile_laws.proofs.TreesTimed.{timed-tree}
use Rattle.profile_laws.proofs.tree_laws.trees_of_streams.Goals as goal

pub returns-clause-timed : goal.returns-clause-timed
returns-clause-timed c = timed-tree

pub returns-clause-complete : goal.returns-clause-complete
returns-clause-complete c = complete-tree
