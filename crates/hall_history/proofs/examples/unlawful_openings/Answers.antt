use Rattle.std.proofs.Common.{◌≡◌, refl, arith}
use Rattle.hall_history.specs.History.{Opened, opened_ids}
use Rattle.hall_history.specs.Examples.{bare, doubled}
use Rattle.hall_history.proofs.examples.unlawful_openings.Goals as goal

pub returns-clause-id : goal.returns-clause-id
unfolding opened_ids
returns-clause-id c legal = let wrong : 2 ≡ 1 = (legal 0 (Opened 2 bare) refl).0 in omega (arith, wrong)

pub returns-clause-info : goal.returns-clause-info
returns-clause-info c legal =
    let info = (legal 0 (Opened 1 doubled) refl).1 in
    let same : 0 ≡ 1 = info.distinct 0 1 (record { container = 0; kind = 0 }) refl refl in
    omega (arith, same)

pub returns-clause-many : goal.returns-clause-many
returns-clause-many c h full may = omega (arith, full, may.2)
