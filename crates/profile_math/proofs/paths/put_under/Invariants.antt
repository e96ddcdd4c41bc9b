use Rattle.std.proofs.Common.{◌≡◌, ◌≤◌, ◌+◌, length, take, drop, map}
use Rattle.profile_math.specs.PathClosing.{one_deeper}
use Rattle.profile_math.proofs.paths.put_under.Given as goal

abbrev pub invariant-loop-left : goal.invariant-loop-left
invariant-loop-left l = record {
  few : l.left ≤ length l.fn.rows;
  long : length l.rows ≡ length l.fn.rows + 1;
  front : take l.left l.rows ≡ take l.left l.fn.rows;
  back : drop (l.left + 1) l.rows ≡ map one_deeper (drop l.left l.fn.rows);
}

abbrev pub decreases-loop-left : goal.decreases-loop-left
decreases-loop-left l = l.left
