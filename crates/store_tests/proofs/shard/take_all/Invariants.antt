use Rattle.std.proofs.Common.{◌≡◌}
use Rattle.store_tests.proofs.shard.take_all.Given as goal

abbrev pub invariant-loop-turn : goal.invariant-loop-turn
invariant-loop-turn g l = l.shard.room ≡ l.room
