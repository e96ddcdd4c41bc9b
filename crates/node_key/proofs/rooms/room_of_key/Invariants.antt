use Rattle.std.proofs.Common.{◌≡◌, ◌+◌, ◌*◌, ◌/◌, ◌%◌, ◌^◌, take}
use Rattle.std.specs.Prelude.{sum_by}
use Rattle.node_key.specs.Rooms.{kid_weight}
use Rattle.node_key.proofs.rooms.room_of_key.Given as goal

abbrev pub invariant-loop-kid : goal.invariant-loop-kid
invariant-loop-kid l = l.sum ≡ (l.k.func + l.k.dur + l.k.dur / 16 + l.k.dur / 4096 + 5 * l.k.height
    + sum_by kid_weight (take l.kid-index l.k.kids)) % 2 ^ 64
