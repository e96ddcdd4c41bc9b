use Rattle.std.proofs.Common.{[], ◌∷◌}
use Rattle.node_key.specs.Examples.{half, tenth}
use Rattle.node_key.specs.Stakes.{stake}
use Rattle.hall_tests.proofs.samples.stake_main.Goals as goal

pub staked-requires : goal.staked-requires
staked-requires g c =
    (half, stake c.args.f tenth ∷ stake c.args.again tenth ∷ [], c.key_of_main.ensures, c.requires)

pub returns : goal.returns
returns g c = c.staked.ensures half (stake c.args.f tenth ∷ stake c.args.again tenth ∷ []) c.key_of_main.ensures
    c.requires
