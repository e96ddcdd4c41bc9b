use Rattle.std.proofs.Common.{◌≡◌, ℕ, arith}
use Rattle.std.proofs.lemmas.Bool.{false≢true}
use Rattle.registry_core.specs.Examples.{both, sealed_trace}
use Rattle.registry_core.proofs.examples.users_by_queries.Goals as goal

pub returns-clause-unused : goal.returns-clause-unused
returns-clause-unused c used =
    let none : ◌≡◌ {A = ℕ} 0 1 = used.users 0 (sealed_trace 0 both) (omega arith) in
    omega (arith, none)

pub returns-clause-gone : goal.returns-clause-gone
returns-clause-gone c used = false≢true (used.kept 1 (omega arith))
