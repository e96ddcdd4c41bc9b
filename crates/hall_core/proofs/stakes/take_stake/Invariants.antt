-- No stake so far is on the number.
use Rattle.std.proofs.Common.{◌≡◌, ◌≢◌, take, All}
use Rattle.hall_core.proofs.stakes.take_stake.Given as goal

abbrev pub invariant-loop-i : goal.invariant-loop-i
invariant-loop-i l = record {
  none : All (λ x. x.number ≢ l.n) (take l.i l.stakes.items);
  same : l.stakes.items ≡ l.fn.stakes.items;
}
