use Rattle.std.proofs.Common.{◌≡◌, ◌++◌, replicate}
use Rattle.profile_math.proofs.merging.lengthen.Given as goal

abbrev pub invariant-loop-i : goal.invariant-loop-i
invariant-loop-i g l = l.rows ≡ l.initial.rows ++ replicate l._i l.filler
