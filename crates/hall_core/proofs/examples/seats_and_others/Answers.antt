use Rattle.std.proofs.Common.{◌∷◌, [], arith, refl}
use Rattle.node_key.specs.Examples.{tenth}
use Rattle.node_key.specs.Stakes.{stake}
use Rattle.hall_core.specs.Examples.{seat_with}
use Rattle.hall_core.proofs.examples.seats_and_others.Goals as goal

pub returns-clause-splits : goal.returns-clause-splits
returns-clause-splits c =
    (seat_with (stake 0 tenth ∷ stake 0 tenth ∷ []), record { there = refl; active = refl }, tt)

pub returns-clause-joins : goal.returns-clause-joins
returns-clause-joins c = (
  seat_with (stake 0 tenth ∷ stake 0 tenth ∷ []),
  record { there = refl; active = refl },
  (
    λ same. omega (arith, same),
    seat_with (stake 0 tenth ∷ []),
    record { there = refl; active = refl },
    refl,
    refl,
  ),
)
