use Rattle.std.proofs.Common.{◌∷◌, [], arith, lit<, refl, subst, sym}
use Rattle.std.proofs.lemmas.List.{length-map}
use Rattle.list_lemmas.proofs.All.{All-from_Each}
use Rattle.node_key.specs.Examples.{half, tenth, tenth_key}
use Rattle.node_key.specs.Stakes.{HasStakes, stake}
use Rattle.node_key.specs.declared.stake.Stake.{Stake}
use Rattle.store_laws.specs.Store.{key_in}
use Rattle.hall_core.specs.Examples.{counted_node, rooms_with, seat_with, three_seats}
use Rattle.hall_core.specs.World.{HasSeenNothing, all_stakes}
use Rattle.hall_core.specs.declared.world.SeatView.{SeatView}
use Rattle.hall_core.proofs.GoodWorlds.{seen_nothing}
use Rattle.hall_core.proofs.SampleRooms.{IsCounted-rooms_with}
use Rattle.hall_core.proofs.SampleWorlds.{f_canonic, half_keyed, key_in-rooms_with, seat_is, tenth_keyed}
use Rattle.hall_core.proofs.SampleWorlds.{tenth_stands}
use Rattle.hall_core.proofs.StakeLists.{length-HasStakes}
use Rattle.hall_core.proofs.examples.seats_that_have_stakes.Goals as goal

pub returns-clause-good : goal.returns-clause-good
returns-clause-good c =
    let nodes = counted_node 0 tenth_key 3 ∷ [] in
    let f = tenth_stands (key_in (rooms_with nodes)) 0 (key_in-rooms_with nodes 0) in
    record {
      store = record {
        canonic = f_canonic;
        counted = IsCounted-rooms_with nodes (all_stakes three_seats.seats) (f, (f, (f, tt))) (refl, tt);
      };
      memos = refl;
      registry = refl;
      seats = All-from_Each HasSeenNothing three_seats.seats (
        seen_nothing (stake 0 tenth ∷ stake 0 tenth ∷ []),
        (
          seen_nothing (stake 0 tenth ∷ []),
          (
            record {
              no_pins = refl;
              no_passes = refl;
              seen = refl;
              no_places = refl;
              no_stakes = λ ended. refl;
            },
            tt,
          ),
        ),
      );
    }

pub returns-clause-leaf : goal.returns-clause-leaf
returns-clause-leaf c = (
  seat_with (stake 0 tenth ∷ []),
  record { there = refl; active = refl },
  (
    tenth,
    [],
    record { over = record { key_of = tenth_keyed; kids = refl }; has = λ x. omega arith },
  ),
)

pub returns-clause-kids : goal.returns-clause-kids
returns-clause-kids c = (
  seat_with (stake 0 tenth ∷ stake 0 tenth ∷ []),
  record { there = refl; active = refl },
  (
    half,
    stake 0 tenth ∷ stake 0 tenth ∷ [],
    record { over = record { key_of = half_keyed; kids = refl }; has = λ x. omega arith },
  ),
)

pub returns-clause-too_few : goal.returns-clause-too_few
returns-clause-too_few c (seat, active, (t, kids, staked)) =
    let same = seat_is three_seats 1 (seat_with (stake 0 tenth ∷ [])) seat refl active in
    let has : HasStakes (stake 0 tenth ∷ []) kids =
    subst (λ (s : SeatView). HasStakes s.stakes kids) (sym same) staked.has in
    let of = staked.over.key_of in
    omega (
      arith,
      length-HasStakes (stake 0 tenth ∷ []) kids has,
      of.len,
      of.numbers,
      length-map kids (λ (x : Stake). x.number),
    )

pub returns-clause-drops : goal.returns-clause-drops
returns-clause-drops c = (
  seat_with (stake 0 tenth ∷ []),
  record { there = refl; active = refl },
  (stake 0 tenth, (0, lit< tt, refl), refl),
)
