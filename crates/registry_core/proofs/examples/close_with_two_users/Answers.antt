use Rattle.std.proofs.Common.{arith, refl}
use Rattle.registry_core.specs.Examples.{both, sealed_trace}
use Rattle.registry_core.proofs.examples.close_with_two_users.Goals as goal

pub returns-clause-kept : goal.returns-clause-kept
returns-clause-kept c = (
  omega arith,
  sealed_trace 2 both,
  record { is_open = refl; sealed = refl },
  omega arith,
  refl,
  refl,
)

pub returns-clause-unused : goal.returns-clause-unused
returns-clause-unused c = (
  omega arith,
  sealed_trace 0 both,
  record { is_open = refl; sealed = refl },
  refl,
  refl,
  refl,
  refl,
)
