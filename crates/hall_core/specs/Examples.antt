-- Small worlds on which the definitions are computed. In a track main calls f twice, and beside it is a call
-- of function 3: f has number 0, main 12, the track 4 and the other call 3.
use Rattle.std.specs.Prelude.{ℕ, ◌%◌, ◌==◌, List, [], ◌∷◌, filter, map, true}
use Rattle.std.specs.List.{range_with_len}
use Rattle.node_key.specs.Examples.{half, half_key, leaf_of_three, tenth, tenth_key, track_key}
use Rattle.node_key.specs.Examples.{track_of_half}
use Rattle.node_key.specs.Stakes.{stake}
use Rattle.node_key.specs.Tree.{Tree, no_kids}
use Rattle.node_key.specs.declared.key.NodeKey.{NodeKey}
use Rattle.node_key.specs.declared.limits.TheConstants.{STORE_ROOMS}
use Rattle.node_key.specs.declared.stake.Stake.{Stake}
use Rattle.shard_core.specs.Room.{Room, Stored, room_of}
use Rattle.store_laws.specs.Store.{Store}
use Rattle.hall_core.specs.World.{empty_seat, new_state}
use Rattle.hall_core.specs.declared.world.SeatView.{SeatView}
use Rattle.hall_core.specs.declared.world.World.{World}

-- ---- nodes, rooms and seats

-- the tree of the other call
abbrev pub other : Tree
other = record { func = 3; dur = 0; kids = no_kids }

-- a key with a count under a number
abbrev pub counted_node : ℕ → NodeKey → ℕ → ℕ × Stored
counted_node n key count = (n, record { key = key; count = count })

-- the room of this index that has given two numbers, with those of the nodes that are in it by their numbers
abbrev pub room_with : List (ℕ × Stored) → ℕ → Room
room_with nodes i = room_of i 2 (filter (λ e. e.0 % STORE_ROOMS == i) nodes)

-- all rooms with these nodes
abbrev pub rooms_with : List (ℕ × Stored) → Store
rooms_with nodes = map (room_with nodes) (range_with_len 0 STORE_ROOMS)

-- a seat that has these stakes, and nothing else
abbrev pub seat_with : List Stake → SeatView
seat_with stakes = record (empty_seat 0) { stakes = stakes }

-- a hall with these nodes and seats
abbrev pub world_with : List (ℕ × Stored) → List SeatView → World
world_with nodes seats = record { state = record (new_state 0) { shards = rooms_with nodes }; seats = seats }

-- ---- a good world with two seats and four nodes

-- the four nodes: the call of f and the other call have these counts
abbrev pub four_nodes : (of_f of_other : ℕ) → List (ℕ × Stored)
four_nodes of_f of_other = counted_node 0 tenth_key of_f ∷ counted_node 3 leaf_of_three of_other
    ∷ counted_node 4 track_key 1
    ∷ counted_node 12 half_key 2 ∷ []

-- The first seat has a stake on the track, the second one on main and one on a call under this number.
abbrev pub two_seats : ℕ → Tree → List SeatView
two_seats n t = seat_with (stake 4 track_of_half ∷ []) ∷ seat_with (stake 12 half ∷ stake n t ∷ []) ∷ []

-- f is a kid twice, main is one once and is staked, and the track and the other call are staked
abbrev pub good_world : World
good_world = world_with (four_nodes 2 1) (two_seats 3 other)

-- ---- worlds that aren't good, each of which breaks one rule

-- the count of the other call is one too high
abbrev pub counted_too_high : World
counted_too_high = world_with (four_nodes 2 2) (two_seats 3 other)

-- f has the count of a node that is a kid once
abbrev pub counted_too_low : World
counted_too_low = world_with (four_nodes 1 1) (two_seats 3 other)

-- f's node is gone
abbrev pub without_f : World
without_f = world_with (counted_node 3 leaf_of_three 1 ∷ counted_node 4 track_key 1
    ∷ counted_node 12 half_key 2 ∷ [])
    (two_seats 3 other)

-- the other call is in room 5, and its key belongs to room 3
abbrev pub in_another_room : World
in_another_room = world_with
    (counted_node 0 tenth_key 2 ∷ counted_node 4 track_key 1 ∷ counted_node 5 leaf_of_three 1
    ∷ counted_node 12 half_key 2 ∷ [])
    (two_seats 5 other)

-- f has the numbers 0 and 16
abbrev pub under_two_numbers : World
under_two_numbers = world_with
    (counted_node 0 tenth_key 2 ∷ counted_node 4 track_key 1 ∷ counted_node 12 half_key 2
    ∷ counted_node 16 tenth_key 1 ∷ [])
    (two_seats 16 tenth)

-- the stake on the other call's number is one on the tree of f
abbrev pub on_another_tree : World
on_another_tree = world_with (four_nodes 2 1) (two_seats 3 tenth)

-- ---- a world for what seats may do

-- Of f alone there are three stakes: two of the first seat and one of the second. The third seat has ended.
abbrev pub three_seats : World
three_seats = world_with (counted_node 0 tenth_key 3 ∷ []) (seat_with (stake 0 tenth ∷ stake 0 tenth ∷ [])
    ∷ seat_with (stake 0 tenth ∷ []) ∷ record (empty_seat 0) { ended = true } ∷ [])
