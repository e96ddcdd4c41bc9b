use Rattle.std.proofs.Common.{◌≡◌, ◌≤◌, ◌+◌, length, take, drop}
use Rattle.profile_math.proofs.merging.shift.Given as goal

abbrev pub invariant-loop-left : goal.invariant-loop-left
invariant-loop-left g l = record {
  few : l.left ≤ l.len;
  length : length l.rows ≡ length l.initial.rows;
  front : take l.left l.rows ≡ take l.left l.initial.rows;
  back : drop (l.left + l.by) l.rows ≡ drop l.left (take l.len l.initial.rows);
}

abbrev pub decreases-loop-left : goal.decreases-loop-left
decreases-loop-left g l = l.left
