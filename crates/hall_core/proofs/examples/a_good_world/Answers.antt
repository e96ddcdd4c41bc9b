use Rattle.std.proofs.Common.{◌∷◌, [], lit≤, refl}
use Rattle.list_lemmas.proofs.All.{All-from_Each}
use Rattle.node_key.specs.Examples.{half, track_of_half}
use Rattle.node_key.specs.Stakes.{stake}
use Rattle.store_laws.specs.Store.{key_in}
use Rattle.hall_core.specs.Examples.{four_nodes, good_world, other, rooms_with}
use Rattle.hall_core.specs.World.{HasSeenNothing, all_stakes}
use Rattle.hall_core.proofs.GoodWorlds.{seen_nothing}
use Rattle.hall_core.proofs.SampleRooms.{IsCounted-rooms_with, kid_places-rooms_with}
use Rattle.hall_core.proofs.SampleRooms.{node_in-rooms_with}
use Rattle.hall_core.proofs.SampleWorlds.{four_canonic, half_stands, key_in-rooms_with, other_stands}
use Rattle.hall_core.proofs.SampleWorlds.{track_stands}
use Rattle.hall_core.proofs.examples.a_good_world.Goals as goal

pub returns-clause-good : goal.returns-clause-good
returns-clause-good c =
    let nodes = four_nodes 2 1 in
    let key = key_in-rooms_with nodes in
    let at = key_in (rooms_with nodes) in
    record {
      store = record {
        canonic = four_canonic 2 1 (lit≤ tt) (lit≤ tt) (lit≤ tt) (lit≤ tt);
        counted = IsCounted-rooms_with nodes (all_stakes good_world.seats) (
          track_stands at (key 4) (key 12) (key 0),
          (half_stands at (key 12) (key 0), (other_stands at 3 (key 3), tt)),
        )
            (refl, (refl, (refl, (refl, tt))));
      };
      memos = refl;
      registry = refl;
      seats = All-from_Each HasSeenNothing good_world.seats (
        seen_nothing (stake 4 track_of_half ∷ []),
        (seen_nothing (stake 12 half ∷ stake 3 other ∷ []), tt),
      );
    }

pub returns-clause-f : goal.returns-clause-f
returns-clause-f c = node_in-rooms_with (four_nodes 2 1) 0

pub returns-clause-main : goal.returns-clause-main
returns-clause-main c = key_in-rooms_with (four_nodes 2 1) 12

pub returns-clause-nothing : goal.returns-clause-nothing
returns-clause-nothing c = node_in-rooms_with (four_nodes 2 1) 16

pub returns-clause-kid_twice : goal.returns-clause-kid_twice
returns-clause-kid_twice c = kid_places-rooms_with (four_nodes 2 1) 0

pub returns-clause-kid_once : goal.returns-clause-kid_once
returns-clause-kid_once c = kid_places-rooms_with (four_nodes 2 1) 12
