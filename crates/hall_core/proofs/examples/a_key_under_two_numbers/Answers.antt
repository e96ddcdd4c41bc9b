use Rattle.std.proofs.Common.{◌≡◌, ◌∷◌, [], arith, lit<, refl, subst, sym}
use Rattle.node_key.specs.Examples.{half_key, tenth_key, track_key}
use Rattle.shard_core.specs.Room.{IsSound}
use Rattle.store_laws.specs.Store.{key_in}
use Rattle.hall_core.specs.Examples.{counted_node, room_with, rooms_with, under_two_numbers}
use Rattle.hall_core.specs.World.{all_stakes}
use Rattle.hall_core.proofs.SampleRooms.{IsCounted-rooms_with, Nodes, node_at-room_with, room_seen}
use Rattle.hall_core.proofs.SampleRooms.{room_there}
use Rattle.hall_core.proofs.SampleWorlds.{half_stands, key_in-rooms_with, tenth_stands, track_stands}
use Rattle.hall_core.proofs.examples.a_key_under_two_numbers.Goals as goal

abbrev nodes : Nodes
nodes = counted_node 0 tenth_key 2 ∷ counted_node 4 track_key 1 ∷ counted_node 12 half_key 2 ∷ counted_node 16 tenth_key 1 ∷ []

pub returns-clause-counts : goal.returns-clause-counts
returns-clause-counts c =
    let key = key_in-rooms_with nodes in
    let at = key_in (rooms_with nodes) in
    IsCounted-rooms_with nodes (all_stakes under_two_numbers.seats) (
      track_stands at (key 4) (key 12) (key 0),
      (half_stands at (key 12) (key 0), (tenth_stands at 16 (key 16), tt)),
    )
    (refl, (refl, (refl, (refl, tt))))

pub returns-clause-room : goal.returns-clause-room
returns-clause-room c r is sound =
    let here = subst IsSound (sym (room_seen nodes 0 r is).1) sound in
    let wrong : 0 ≡ 16 =
    here.keys_differ 0 16 tenth_key 2 1 (node_at-room_with nodes 0 0) (node_at-room_with nodes 0 16) in
    omega (arith, wrong)

pub returns-clause-rooms : goal.returns-clause-rooms
returns-clause-rooms c canonic =
    let there = room_there nodes 0 (lit< tt) in
    returns-clause-room c (room_with nodes 0) there (canonic.sound 0 (room_with nodes 0) there).1

pub returns-clause-good : goal.returns-clause-good
returns-clause-good c good = returns-clause-rooms c good.store.canonic
