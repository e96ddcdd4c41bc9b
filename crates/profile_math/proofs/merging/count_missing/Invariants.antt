use Rattle.std.proofs.Common.{◌+◌, ◌-◌, length}
use Rattle.profile_math.proofs.MergeSteps.{Counts}
use Rattle.profile_math.proofs.merging.count_missing.Given as goal

abbrev pub invariant-loop-next : goal.invariant-loop-next
invariant-loop-next g l = Counts g.R.Summand.place g.R.Summand.plus l.rows l.others l.at l.next l.missing

abbrev pub decreases-loop-next : goal.decreases-loop-next
decreases-loop-next g l = (length l.rows - l.at) + (length l.others - l.next)
