-- The key is that of the tree of which the stakes are on the kids.
use Rattle.std.proofs.Common.{◌<◌, length, arith}
use Rattle.hall_core.proofs.KidStakes.{kid_stakes-end, kid_stakes-more}
use Rattle.hall_core.proofs.stakes.kid_stakes.Goals as goal

pub loop-i-preserved : goal.loop-i-preserved
loop-i-preserved c =
    let below : c.loop-i.i < length c.args.key.now.kids = omega arith in
    kid_stakes-more c.args.key.now c.args.tree.now c.loop-i.kids.items c.push.new.self.items c.loop-i.i _
    c.kid.result.now c.in_ok-copy.field-0 c.loop-i.invariant below c.kid.ensures c.in_ok-copy.ensures
    c.in_ok-push.ensures.items

pub returns : goal.returns
returns c =
    kid_stakes-end c.args.key.now c.args.tree.now c.loop-i.kids.items c.loop-i.i c.requires.0
    c.loop-i.invariant (omega arith) c.requires.1
