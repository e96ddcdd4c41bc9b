use Rattle.std.proofs.Common.{◌≡◌, [], replicate}
use Rattle.memo_rooms.proofs.rooms.new_rooms.Given as goal

abbrev pub invariant-loop : goal.invariant-loop
invariant-loop l = l.rooms.items ≡ replicate l.counter []
