-- The items are those of the tree over the stakes, of which there is one.
use Rattle.std.proofs.Common.{◌≡◌, refl, ◌∙◌, arith}
use Rattle.std.proofs.lemmas.Result.{IfOk-weaker}
use Rattle.node_key.specs.Items.{node}
use Rattle.node_key.specs.Tree.{Tree}
use Rattle.hall_core.proofs.StakedItems.{items-end, items-more, next_staked}
use Rattle.hall_core.proofs.stakes.staked_tree.Goals as goal

pub unreachable-requires : goal.unreachable-requires
unreachable-requires c =
    let (t, kids, staked) = c.requires.staked in
    let there = next_staked c.args.stakes.now c.args.key.now t kids c.loop-kid.kid-index _ staked
    c.loop-kid-test.true in
    c.in_default.ensures.none there.0 there.1 there.2

pub loop-kid-preserved : goal.loop-kid-preserved
loop-kid-preserved c =
    items-more c.args.stakes.now c.args.key.now c.loop-kid.items c.push.new.self c.loop-kid.from _
    c.loop-kid.kid-index _ c.in-Some.tree.now c.in_ok-copy.field-0 c.requires.one c.loop-kid.invariant
    c.loop-kid-test.true c.in-Some.ensures.some c.in_ok-copy.ensures c.in_ok-push.ensures.ok refl

pub new-requires : goal.new-requires
new-requires c =
    let (t, kids, staked) = c.requires.staked in
    let end = items-end c.args.stakes.now c.args.key.now c.loop-kid.items c.loop-kid.from c.loop-kid.kid-index
    c.loop-kid.invariant c.loop-kid-test.false t kids staked (omega arith) in
    record { few = end.few; within = end.within; low = end.low }

pub returns : goal.returns
returns c =
    IfOk-weaker c.new.result
    (λ (r : Tree). r ≡ node c.args.key.now.func 0 c.args.key.now.dur c.loop-kid.items) _
    (λ r made t kids staked. made ∙ (items-end c.args.stakes.now c.args.key.now c.loop-kid.items
    c.loop-kid.from c.loop-kid.kid-index c.loop-kid.invariant c.loop-kid-test.false t kids staked (omega arith)).made)
    c.new.ensures
