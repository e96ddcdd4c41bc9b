use Rattle.std.proofs.Common.{◌≡◌, map}
use Rattle.std.specs.List.{range_with_len}
use Rattle.store_laws.specs.Store.{empty_room}
use Rattle.hall_world.proofs.world.new_shards.Given as goal

abbrev pub invariant-loop-room : goal.invariant-loop-room
invariant-loop-room l = l.shards ≡ map (empty_room l.first) (range_with_len 0 l.room)
