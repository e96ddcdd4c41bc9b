use Rattle.std.proofs.Common.{[]}
use Rattle.node_key.specs.Examples.{tenth}
use Rattle.hall_tests.proofs.SampleStakes.{has_none}
use Rattle.hall_tests.proofs.samples.stake_f.Goals as goal

pub staked-requires : goal.staked-requires
staked-requires g c =
    (tenth, [], c.key_of_f.ensures, has_none (g.H.Hall.view c.args.hall.now).seat.stakes)

pub returns : goal.returns
returns g c = c.staked.ensures tenth [] c.key_of_f.ensures (has_none (g.H.Hall.view c.args.hall.now).seat.stakes)
