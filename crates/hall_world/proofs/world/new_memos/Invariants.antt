use Rattle.std.proofs.Common.{◌≡◌, [], replicate}
use Rattle.hall_world.proofs.world.new_memos.Given as goal

abbrev pub invariant-loop : goal.invariant-loop
invariant-loop l = l.memos ≡ replicate l.counter []
