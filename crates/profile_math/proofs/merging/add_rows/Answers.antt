use Rattle.std.proofs.Common.{◌≡◌, length, rules}
use Rattle.profile_math.proofs.MergeSteps.{merged-empty}
use Rattle.profile_math.proofs.merging.add_rows.Goals as goal

pub returns-then-is_empty-clause-ok : goal.returns-then-is_empty-clause-ok
returns-then-is_empty-clause-ok g c = let none : length c.args.others.now ≡ 0 = search rules in
    merged-empty g.R.Summand.place g.R.Summand.plus c.args.rows.now c.args.others.now none
