use Rattle.std.proofs.Common.{[], ◌∷◌, ◌-◌}
use Rattle.node_key.specs.Stakes.{stake}
use Rattle.hall_tests.specs.Nested.{outermost}
use Rattle.hall_tests.proofs.SampleNesting.{climbs_next}
use Rattle.hall_tests.proofs.SampleStakes.{has_none, has_one}
use Rattle.hall_tests.proofs.nesting.stake_nested.Goals as goal

pub loop-func-init : goal.loop-func-init
loop-func-init g c =
    c.staked-innermost.ensures (outermost 1) [] c.key_of_innermost.ensures
    (has_none (g.H.Hall.view c.args.hall.now).seat.stakes)

pub loop-func-preserved : goal.loop-func-preserved
loop-func-preserved g c =
    let f = c.loop-func.func in
    let inner = stake c.loop-func.n (outermost (f - 1)) in
    climbs_next _ _ _ c.staked-over.result.0 c.loop-func.n f c.loop-func.invariant
    (c.staked-over.ensures (outermost f) (inner ∷ []) c.key_of_call.ensures
    (has_one _ _ inner c.loop-func.invariant))
