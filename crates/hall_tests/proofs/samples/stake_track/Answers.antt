use Rattle.std.proofs.Common.{[], ◌∷◌}
use Rattle.node_key.specs.Examples.{half, track_of_half}
use Rattle.node_key.specs.Stakes.{stake}
use Rattle.hall_tests.proofs.samples.stake_track.Goals as goal

pub staked-requires : goal.staked-requires
staked-requires g c = (track_of_half, stake c.args.main half ∷ [], c.key_of_track.ensures, c.requires)

pub returns : goal.returns
returns g c = c.staked.ensures track_of_half (stake c.args.main half ∷ []) c.key_of_track.ensures c.requires
