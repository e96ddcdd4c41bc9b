-- Small rooms on which the definitions are computed.
use Rattle.std.specs.Prelude.{ℕ, ◌-◌}
use Rattle.std.specs.FinMap as map
use Rattle.node_key.specs.Examples.{leaf_of_three}
use Rattle.node_key.specs.declared.limits.TheConstants.{MAX_NUMBERS}
use Rattle.shard_core.specs.declared.limits.TheConstants.{MAX_COUNT}
use Rattle.shard_core.specs.Room.{Room, with_new, with_node}

-- room 3, without nodes, with one number left
abbrev pub one_left : Room
one_left = record { room = 3; next = MAX_NUMBERS - 1; nodes = map.empty }

-- the last number of room 3
abbrev pub last_number : ℕ
last_number = 17592186044403

-- the room once that number was given to a call of function 3 that takes no time
abbrev pub last_given : Room
last_given = with_new one_left leaf_of_three

-- the same with another count
abbrev pub counted : ℕ → Room
counted c = with_node last_given last_number leaf_of_three c

-- the same with the greatest count
abbrev pub counted_out : Room
counted_out = counted MAX_COUNT

-- the room with all numbers given and no node left
abbrev pub all_given : Room
all_given = record { room = 3; next = MAX_NUMBERS; nodes = map.empty }
