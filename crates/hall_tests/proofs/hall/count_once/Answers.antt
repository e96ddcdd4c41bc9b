use Rattle.node_key.specs.Examples.{tenth}
use Rattle.hall_tests.proofs.SampleStakes.{has_one, once}
use Rattle.hall_tests.proofs.hall.count_once.Goals as goal

pub release-requires : goal.release-requires
release-requires g c = (tenth, has_one _ _ _ c.stake_f-f.ensures)

pub returns : goal.returns
returns g c = once _ _ _ _ c.requires c.stake_f-f.ensures
    (c.release.ensures.answer tenth (has_one _ _ _ c.stake_f-f.ensures))
