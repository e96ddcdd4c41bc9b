use Rattle.std.proofs.Common.{ℕ, subst}
use Rattle.node_key.specs.Stands.{Stands}
use Rattle.node_key.specs.Tree.{Tree}
use Rattle.store_laws.specs.Store.{key_in}
use Rattle.store_laws.proofs.CanonicTrees.{one_number, one_tree, tree_of_node}
use Rattle.hall_core.proofs.laws.equal_subtrees_are_one_node.Goals as goal

pub returns-clause-stands : goal.returns-clause-stands
returns-clause-stands c w n s good at = tree_of_node w.state.shards n s good.store.canonic at

pub returns-clause-one : goal.returns-clause-one
returns-clause-one c w m n t u good at_m at_n = (
  λ same. one_tree (key_in w.state.shards) n t u
      (subst (λ (k : ℕ). Stands (key_in w.state.shards) k t) same at_m) at_n,
  λ same. one_number w.state.shards m n u good.store.canonic
      (subst (λ (v : Tree). Stands (key_in w.state.shards) m v) same at_m) at_n,
)
