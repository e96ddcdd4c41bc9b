use Rattle.std.proofs.Common.{◌≡◌, ◌∷◌, [], arith, lit<, refl, subst, sym}
use Rattle.node_key.specs.Examples.{half_key, leaf_of_three, tenth_key, track_key}
use Rattle.node_key.specs.Rooms.{room}
use Rattle.shard_core.specs.Room.{IsSound}
use Rattle.store_laws.specs.Store.{key_in}
use Rattle.hall_core.specs.Examples.{in_another_room, counted_node, room_with, rooms_with}
use Rattle.hall_core.specs.World.{all_stakes}
use Rattle.hall_core.proofs.SampleRooms.{IsCounted-rooms_with, Nodes, node_at-room_with, room_seen}
use Rattle.hall_core.proofs.SampleRooms.{room_there}
use Rattle.hall_core.proofs.SampleWorlds.{half_stands, key_in-rooms_with, other_stands, track_stands}
use Rattle.hall_core.proofs.examples.a_key_in_another_room.Goals as goal

abbrev nodes : Nodes
nodes = counted_node 0 tenth_key 2 ∷ counted_node 4 track_key 1 ∷ counted_node 5 leaf_of_three 1 ∷ counted_node 12 half_key 2 ∷ []

pub returns-clause-counts : goal.returns-clause-counts
returns-clause-counts c =
    let key = key_in-rooms_with nodes in
    let at = key_in (rooms_with nodes) in
    IsCounted-rooms_with nodes (all_stakes in_another_room.seats) (
      track_stands at (key 4) (key 12) (key 0),
      (half_stands at (key 12) (key 0), (other_stands at 5 (key 5), tt)),
    )
    (refl, (refl, (refl, (refl, tt))))

pub returns-clause-room : goal.returns-clause-room
unfolding room
returns-clause-room c r is sound =
    let here = subst IsSound (sym (room_seen nodes 5 r is).1) sound in
    let wrong : 3 ≡ 5 = (here.placed 5 leaf_of_three 1 (node_at-room_with nodes 5 5)).key in
    omega (arith, wrong)

pub returns-clause-rooms : goal.returns-clause-rooms
returns-clause-rooms c canonic =
    let there = room_there nodes 5 (lit< tt) in
    returns-clause-room c (room_with nodes 5) there (canonic.sound 5 (room_with nodes 5) there).1

pub returns-clause-good : goal.returns-clause-good
returns-clause-good c good = returns-clause-rooms c good.store.canonic
