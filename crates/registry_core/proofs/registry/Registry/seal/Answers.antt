-- The registry stays sound with a load ended, and a place was promised for it.
use Rattle.std.proofs.Common.{sym, subst, ◌∙◌}
use Rattle.registry_core.specs.contracts.registry.Registry as registry
use Rattle.registry_core.specs.Loading.{AwaitsSeal}
use Rattle.registry_core.specs.Registry.{RegistryValue}
use Rattle.registry_core.proofs.SoundLoads.{count-sealed, loading-promise, sound-sealed}
use Rattle.registry_core.proofs.registry.Registry.seal.Goals as goal

pub overflow_sub-self : goal.overflow_sub-self
overflow_sub-self c =
    let was = subst (λ (r : RegistryValue). AwaitsSeal r c.args.id) (sym c.self.view_is) c.requires in
    loading-promise _ c.args.id c.self.invariant.0 (was.0, was.1, was.2)

pub invariant_of-self : goal.invariant_of-self
invariant_of-self c =
    let was = subst (λ (r : RegistryValue). AwaitsSeal r c.args.id) (sym c.self.view_is) c.requires in
    rw c.seal.ensures (
      sound-sealed _ c.args.id c.self.invariant.0 was,
      c.self.invariant.1 ∙ sym (count-sealed (registry.the_view c.self.inside) c.args.id),
    )
