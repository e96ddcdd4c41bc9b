use Rattle.std.proofs.Common.{sym, ◌∙◌}
use Rattle.profile_math.proofs.MergeSteps.{turn_of-at, turn_of-past}
use Rattle.profile_math.proofs.merging.turn.Goals as goal

pub returns-then-at-rows : goal.returns-then-at-rows
returns-then-at-rows g c = c.compare.ensures ∙ sym
    (turn_of-at g.R.Summand.place c.args.rows.now c.args.at _ c.args.row
    c.if-at-rows.true c.index-rows-at.is)

pub returns-else-at-rows : goal.returns-else-at-rows
returns-else-at-rows g c = sym (turn_of-past g.R.Summand.place c.args.rows.now c.args.at c.args.row
    c.if-at-rows.false)
