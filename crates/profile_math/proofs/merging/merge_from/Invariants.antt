use Rattle.std.proofs.Common.{◌-◌, length, drop}
use Rattle.profile_math.specs.Merging.{merged}
use Rattle.profile_math.proofs.MergeSteps.{Merges}
use Rattle.profile_math.proofs.merging.merge_from.Given as goal

abbrev pub invariant-loop-next : goal.invariant-loop-next
invariant-loop-next g l = Merges g.R.Summand.place g.R.Summand.plus
    (merged g.R.Summand.place g.R.Summand.plus (drop l.from l.initial.rows) l.others) l.rows l.others l.at
    l.next l.place

abbrev pub decreases-loop-next : goal.decreases-loop-next
decreases-loop-next g l = length l.rows - l.place
