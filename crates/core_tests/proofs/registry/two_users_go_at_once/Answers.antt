use Rattle.std.proofs.Common.{◌∙◌, ap, arith, refl, subst, sym}
use Rattle.list_lemmas.proofs.All.{All-two}
use Rattle.hall_history.specs.declared.asks.AskIds.TheVariants.{Two}
use Rattle.registry_core.specs.Asking.{AreUsed}
use Rattle.registry_core.specs.Examples.{both, closed_with, ended_trace}
use Rattle.registry_core.specs.Registry.{after_entry}
use Rattle.core_tests.proofs.Samples.{IsUsed}
use Rattle.core_tests.proofs.registry.two_users_go_at_once.Goals as goal

pub give_back-requires : goal.give_back-requires
give_back-requires g c = subst (λ r. AreUsed r (Two 1 1))
    (sym (c.ask_in_vain.ensures ∙ ap after_entry c.close_for_two.ensures))
    (All-two (IsUsed (after_entry (closed_with 2)) (Two 1 1)) 1 1 (ended_trace 2 both, refl, omega arith)
    (ended_trace 2 both, refl, omega arith))
