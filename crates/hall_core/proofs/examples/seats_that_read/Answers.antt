use Rattle.std.proofs.Common.{◌∷◌, [], lit<, refl, subst, sym}
use Rattle.std.proofs.lemmas.Bool.{false≢true}
use Rattle.node_key.specs.Examples.{half, half_key, track_key, track_of_half}
use Rattle.node_key.specs.Stakes.{stake}
use Rattle.store_laws.specs.Reached.{IsReached, below, staked}
use Rattle.hall_core.specs.Examples.{four_nodes, good_world, other, seat_with}
use Rattle.hall_core.specs.declared.world.SeatView.{SeatView}
use Rattle.hall_core.proofs.SampleReach.{reached_among}
use Rattle.hall_core.proofs.SampleRooms.{node_in-rooms_with}
use Rattle.hall_core.proofs.SampleWorlds.{seat_is}
use Rattle.hall_core.proofs.examples.seats_that_read.Goals as goal

pub returns-clause-staked : goal.returns-clause-staked
returns-clause-staked c = (
  seat_with (stake 4 track_of_half ∷ []),
  record { there = refl; active = refl },
  staked (stake 4 track_of_half) (0, lit< tt, refl),
)

pub returns-clause-below : goal.returns-clause-below
returns-clause-below c = (
  seat_with (stake 4 track_of_half ∷ []),
  record { there = refl; active = refl },
  below 12 (record { key = half_key; count = 2 }) (record { gap = 100000000; span = 100000000; node = 0 })
      (below 4 (record { key = track_key; count = 1 }) (record { gap = 0; span = 500000000; node = 12 })
      (staked (stake 4 track_of_half) (0, lit< tt, refl)) (node_in-rooms_with (four_nodes 2 1) 4)
      (0, lit< tt, refl)) (node_in-rooms_with (four_nodes 2 1) 12) (0, lit< tt, refl),
)

pub returns-clause-beside : goal.returns-clause-beside
returns-clause-beside c (seat, active, reached) =
    let held = stake 4 track_of_half ∷ [] in
    let same = seat_is good_world 0 (seat_with held) seat refl active in
    let from = subst (λ (s : SeatView). IsReached good_world.state.shards s.stakes 3) (sym same) reached in
    false≢true (reached_among (four_nodes 2 1) held (4 ∷ 12 ∷ 0 ∷ []) 3 (refl, tt)
    (tt, (tt, ((refl, tt), ((refl, (refl, tt)), tt)))) from)

pub returns-clause-not_above : goal.returns-clause-not_above
returns-clause-not_above c (seat, active, reached) =
    let held = stake 12 half ∷ stake 3 other ∷ [] in
    let same = seat_is good_world 1 (seat_with held) seat refl active in
    let from = subst (λ (s : SeatView). IsReached good_world.state.shards s.stakes 4) (sym same) reached in
    false≢true (reached_among (four_nodes 2 1) held (12 ∷ 3 ∷ 0 ∷ []) 4 (refl, (refl, tt))
    (tt, (tt, ((refl, tt), ((refl, (refl, tt)), tt)))) from)
