use Rattle.std.proofs.Common.{slice_get, arith}
use Rattle.node_key.specs.Branches.{branches}
use Rattle.call_tree.proofs.Below.{branch_is, nodes-branch}
use Rattle.store_tests.proofs.trees.+push_nodes.Goals as goal

pub push_nodes-requires : goal.push_nodes-requires
push_nodes-requires t c =
    let here = branch_is (slice_get (branches c.args.t.now.kids) c.loop-i.i) c.gap.result c.kid.result.now
    c.gap.ensures c.kid.ensures in
    omega (
      arith,
      nodes-branch c.args.t.now.kids c.loop-i.i
          (record { gap = c.gap.result; tree = c.kid.result.now }) here,
      c.decreases,
    )
