use Rattle.std.proofs.Common.{◌<◌, length, rules, arith}
use Rattle.profile_math.proofs.MergeSteps.{counts-less, counts-equal, counts-greater, counts-end}
use Rattle.profile_math.proofs.merging.count_missing.Goals as goal

pub overflow_add-at : goal.overflow_add-at
overflow_add-at g c = let step = counts-less g.R.Summand.place g.R.Summand.plus _ _ _ _ _ _
    c.loop-next.invariant
    c.loop-next-test.true c.index-others-next.is c.in-Less.ensures in
    let inside : c.loop-next.at < length c.args.rows.now = step.0 in search rules

pub loop-next-smaller-in-Less : goal.loop-next-smaller-in-Less
loop-next-smaller-in-Less g c = let step = counts-less g.R.Summand.place g.R.Summand.plus _ _ _ _ _ _
    c.loop-next.invariant c.loop-next-test.true c.index-others-next.is c.in-Less.ensures in
    let inside : c.loop-next.at < length c.args.rows.now = step.0 in omega arith

pub loop-next-preserved-in-Less : goal.loop-next-preserved-in-Less
loop-next-preserved-in-Less g c = (counts-less g.R.Summand.place g.R.Summand.plus _ _ _ _ _ _
    c.loop-next.invariant
    c.loop-next-test.true c.index-others-next.is c.in-Less.ensures).1

pub overflow_add-at-in-Equal : goal.overflow_add-at-in-Equal
overflow_add-at-in-Equal g c = let step = counts-equal g.R.Summand.place g.R.Summand.plus _ _ _ _ _ _
    c.loop-next.invariant c.loop-next-test.true c.index-others-next.is c.in-Equal.ensures in
    let inside : c.loop-next.at < length c.args.rows.now = step.0 in search rules

pub loop-next-preserved-in-Equal : goal.loop-next-preserved-in-Equal
loop-next-preserved-in-Equal g c = (counts-equal g.R.Summand.place g.R.Summand.plus _ _ _ _ _ _
    c.loop-next.invariant
    c.loop-next-test.true c.index-others-next.is c.in-Equal.ensures).1

pub loop-next-preserved : goal.loop-next-preserved
loop-next-preserved g c = counts-greater g.R.Summand.place g.R.Summand.plus _ _ _ _ _ _ c.loop-next.invariant
    c.loop-next-test.true c.index-others-next.is c.in-Greater.ensures

pub returns-clause-exact : goal.returns-clause-exact
returns-clause-exact g c = counts-end g.R.Summand.place g.R.Summand.plus _ _ _ _ _ c.loop-next.invariant
    c.loop-next-test.false
