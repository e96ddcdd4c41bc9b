use Rattle.hall_tests.proofs.SampleStakes.{built}
use Rattle.hall_tests.proofs.samples.build.Goals as goal

pub returns : goal.returns
returns g c = built _ _ _ _ _ _ _ _ _ c.stake_f-f.ensures c.stake_f-again.ensures c.stake_main-main.ensures
    c.stake_track-root.ensures
