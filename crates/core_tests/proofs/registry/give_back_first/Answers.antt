use Rattle.std.proofs.Common.{refl, subst, sym, arith}
use Rattle.list_lemmas.proofs.All.{All-one}
use Rattle.hall_history.specs.declared.asks.AskIds.TheVariants.{One}
use Rattle.registry_core.specs.Asking.{AreUsed}
use Rattle.registry_core.specs.Examples.{both, closed_with, ended_trace}
use Rattle.core_tests.proofs.Samples.{IsUsed}
use Rattle.core_tests.proofs.registry.give_back_first.Goals as goal

pub unpin-first-requires : goal.unpin-first-requires
unpin-first-requires g c = subst (λ r. AreUsed r (One 1)) (sym c.requires)
    (All-one (IsUsed (closed_with 2) (One 1)) 1 (ended_trace 2 both, refl, omega arith))
