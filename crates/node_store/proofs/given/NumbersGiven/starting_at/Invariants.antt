use Rattle.std.proofs.Common.{◌≡◌, [], replicate}
use Rattle.node_store.proofs.given.NumbersGiven.starting_at.Given as goal

abbrev pub invariant-loop : goal.invariant-loop
invariant-loop l = l.rooms.items ≡ replicate l.counter []
