use Rattle.std.proofs.Common.{[], ◌∷◌, ◌-◌}
use Rattle.hall_history.specs.Seat.{ExchangesStakes}
use Rattle.node_key.specs.Stakes.{stake}
use Rattle.hall_tests.specs.Nested.{outermost}
use Rattle.hall_tests.proofs.nesting.stake_nested.Given as goal

-- the call of the function before the next one is staked
abbrev pub invariant-loop-func : goal.invariant-loop-func
invariant-loop-func g l = ExchangesStakes (g.H.Hall.view l.fn.hall).seat (g.H.Hall.view l.hall).seat []
    (stake l.n (outermost (l.func - 1)) ∷ [])
