-- Each branch of a tree has fewer nodes than the tree.
use Rattle.std.specs.Prelude.{◌+◌, ◌≤◌, max, List, [], ◌∷◌}
use Rattle.std.proofs.Common.{arith}
use denote.Param.Weighed.{most}
use Rattle.node_key.specs.Tree.{nodes_below}
use Rattle.node_key.specs.Branches.{kids_of}
use Rattle.node_key.specs.declared.tree.Branch.{Branch}
use Rattle.node_key.specs.declared.tree.CallTree.TheDeep.{deep-Branch}

-- no branch has as many nodes as the tree
most_le-nodes_below : (bs : List Branch) → most deep-Branch bs ≤ nodes_below (kids_of bs) + 1
most_le-nodes_below [] = omega arith
most_le-nodes_below (b ∷ bs) = omega (arith, most_le-nodes_below bs)

-- the same, as a tree of branches asks for it
pub branches_fall : (bs : List Branch) → max (most deep-Branch bs) 0 ≤ nodes_below (kids_of bs) + 1
branches_fall bs = omega (arith, most_le-nodes_below bs)
