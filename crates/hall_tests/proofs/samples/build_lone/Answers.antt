use Rattle.std.proofs.Common.{[], ◌∷◌}
use Rattle.node_key.specs.Stakes.{stake}
use Rattle.plain_hall.specs.PlainHall.{seat_of}
use Rattle.test_keys.specs.Examples.{lone_main, track_of_lone_main}
use Rattle.hall_tests.proofs.SampleStakes.{climbs, has_none, has_one}
use Rattle.hall_tests.proofs.samples.build_lone.Goals as goal

pub staked-root-requires : goal.staked-root-requires
staked-root-requires g c =
    let main = c.staked-main.ensures lone_main [] c.key_of_lone_main.ensures
    (has_none (seat_of c.args.hall.now).stakes) in (
      track_of_lone_main,
      stake c.staked-main.result.0 lone_main ∷ [],
      c.key_of_lone_track.ensures,
      has_one _ _ _ main,
    )

pub returns : goal.returns
returns g c =
    let main = c.staked-main.ensures lone_main [] c.key_of_lone_main.ensures
    (has_none (seat_of c.args.hall.now).stakes) in
    let x = stake c.staked-main.result.0 lone_main in
    climbs _ _ _ _ _ main (c.staked-root.ensures track_of_lone_main (x ∷ []) c.key_of_lone_track.ensures
    (has_one _ _ x main))
