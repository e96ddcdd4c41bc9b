use Rattle.hall_trait.specs.Reach.{FromStake}
use Rattle.node_key.specs.Examples.{tenth}
use Rattle.node_key.specs.Stakes.{stake}
use Rattle.hall_tests.proofs.SampleStakes.{has_the_stake}
use Rattle.hall_tests.proofs.looking.fill.Goals as goal

pub memo_fill-requires : goal.memo_fill-requires
memo_fill-requires g c =
    let x = stake c.args.f tenth in
    (FromStake x, tenth, g.met.H.Hall.staked c.args.hall.now x (has_the_stake _ x c.requires), c.in_ok-entry.ensures)
