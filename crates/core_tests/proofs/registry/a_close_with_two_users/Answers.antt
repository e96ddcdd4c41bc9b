use Rattle.std.proofs.Common.{arith, refl, subst, sym}
use Rattle.list_lemmas.proofs.All.{All-one}
use Rattle.hall_history.specs.declared.asks.AskIds.TheVariants.{One}
use Rattle.registry_core.specs.Asking.{AreUsed}
use Rattle.registry_core.specs.Examples.{both, closed_with, ended_trace}
use Rattle.core_tests.proofs.Samples.{IsUsed}
use Rattle.core_tests.proofs.registry.a_close_with_two_users.Goals as goal

pub give_back-requires : goal.give_back-requires
give_back-requires g c = subst (λ r. AreUsed r (One 1)) (sym c.give_back_first.ensures)
    (All-one (IsUsed (closed_with 1) (One 1)) 1 (ended_trace 1 both, refl, omega arith))
