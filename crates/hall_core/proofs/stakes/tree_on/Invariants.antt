-- No stake so far is on the number.
use Rattle.std.proofs.Common.{◌≢◌, take, All}
use Rattle.hall_core.proofs.stakes.tree_on.Given as goal

abbrev pub invariant-loop-x : goal.invariant-loop-x
invariant-loop-x l = All (λ x. x.number ≢ l.n) (take l.x-index l.stakes)
