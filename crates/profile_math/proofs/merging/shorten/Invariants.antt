use Rattle.std.proofs.Common.{◌≡◌, ◌≤◌, length, take}
use Rattle.profile_math.proofs.merging.shorten.Given as goal

abbrev pub invariant-loop-rows : goal.invariant-loop-rows
invariant-loop-rows g l = record {
  long : l.len ≤ length l.rows;
  same : take l.len l.rows ≡ take l.len
      l.initial.rows;
}

abbrev pub decreases-loop-rows : goal.decreases-loop-rows
decreases-loop-rows g l = length l.rows
