-- The registry stays sound with a track published, and a place was promised for it.
use Rattle.std.proofs.Common.{◌≡◌, ℕ, sym, subst, ◌∙◌}
use Rattle.registry_core.specs.contracts.registry.Registry as registry
use Rattle.registry_core.specs.Loading.{AwaitsTrack}
use Rattle.registry_core.specs.Registry.{RegistryValue}
use Rattle.registry_core.proofs.SoundAsks.{few_tracks}
use Rattle.registry_core.proofs.SoundLoads.{count-published, loading-promise, sound-published}
use Rattle.registry_core.proofs.registry.Registry.publish.Goals as goal

-- what is required of the value, of the fields
awaits : (r s : RegistryValue) (id track : ℕ) → r ≡ s → AwaitsTrack s id track → AwaitsTrack r id track
awaits r s id track is was = subst (λ (q : RegistryValue). AwaitsTrack q id track) (sym is) was

pub publish-requires : goal.publish-requires
publish-requires c =
    let was = awaits _ _ c.args.id c.args.track c.self.view_is c.requires in
    (was.0, was.1, few_tracks _ c.args.id was.0 c.self.invariant.0 was.1, was.3)

pub overflow_sub-self : goal.overflow_sub-self
overflow_sub-self c =
    let was = awaits _ _ c.args.id c.args.track c.self.view_is c.requires in
    loading-promise _ c.args.id c.self.invariant.0 (was.0, was.1, was.2)

pub invariant_of-self : goal.invariant_of-self
invariant_of-self c =
    let was = awaits _ _ c.args.id c.args.track c.self.view_is c.requires in
    let counts = count-published (registry.the_view c.self.inside) c.args.id c.args.track c.args.start
    c.args.root in
    rw c.publish.ensures (
      sound-published _ c.args.id c.args.track c.args.start c.args.root c.self.invariant.0 was,
      c.self.invariant.1 ∙ sym counts,
    )
