use Rattle.hall_trait.specs.Reach.{FromStake}
use Rattle.node_key.specs.Stakes.{stake}
use Rattle.hall_tests.specs.Nested.{outermost}
use Rattle.hall_tests.proofs.SampleStakes.{has_the_stake}
use Rattle.hall_tests.proofs.nesting.rows_kept.Goals as goal

pub memo_look-requires : goal.memo_look-requires
memo_look-requires g c =
    let t = outermost c.args.count in
    let x = stake c.args.n t in
    (FromStake x, t, g.met.H.Hall.staked c.args.hall.now x (has_the_stake _ x c.requires))
