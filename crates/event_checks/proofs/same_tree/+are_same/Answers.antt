use Rattle.std.proofs.Common.{arith, refl, slice_get}
use Rattle.node_key.specs.Branches.{branches}
use Rattle.call_tree.proofs.Below.{branch_is, nodes-branch}
use Rattle.event_checks.proofs.SameTrees.{same_trees}
use Rattle.event_checks.proofs.same_tree.+are_same.Goals as goal

pub are_same-requires : goal.are_same-requires
are_same-requires t c =
    let fewer = nodes-branch c.args.a.now.kids c.loop-i.i
    (record { gap = c.gap.result; tree = c.kid.result.now })
    (branch_is (slice_get (branches c.args.a.now.kids) c.loop-i.i) c.gap.result c.kid.result.now c.gap.ensures
    c.kid.ensures) in (omega (arith, fewer, c.decreases), tt)

pub returns : goal.returns
returns t c =
    let (func, dur, many) = c.have_same_node.ensures.0 c.if-not-have_same_node.false in (
      λ _. same_trees c.args.a.now c.args.b.now c.loop-i.i func dur many
          (omega (arith, c.len-i-end.ensures.value)) c.loop-i.invariant,
      λ _. refl,
    )
