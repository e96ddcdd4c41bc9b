use Rattle.std.proofs.Common.{◌≡◌, ℕ, ◌≤◌, List, None, sym, ap, ◌∙◌, subst, arith}
use Rattle.hall_history.specs.declared.asks.AskIds.{AskIds}
use Rattle.trace_base.specs.declared.limits.TheConstants.{MAX_PLACES}
use Rattle.registry_core.specs.Asking.{first_unknown, with_users}
use Rattle.registry_core.specs.Registry.{FitsPlaces, IsSoundRegistry, RegistryValue, after_entry, open_count}
use Rattle.registry_core.specs.Registry.{taken_places}
use Rattle.registry_core.specs.Trace.{Trace}
use Rattle.registry_core.proofs.SoundAsks.{open_count-asked, sound-asked}
use Rattle.registry_core.proofs.registry.Registry.ask.Goals as goal

-- the registry is sound with more users of its traces, and as many of them are open
asked : (r old : RegistryValue) (ids : AskIds) (traces : List Trace) (taken count : ℕ) → r ≡ old
    → IsSoundRegistry r × (count ≡ open_count r.traces) → taken ≡ taken_places old → taken ≤ MAX_PLACES
    → (taken ≡ MAX_PLACES → ⊥) → first_unknown old ids ≡ None → traces ≡ with_users ids r.traces
    → IsSoundRegistry (record (after_entry r) { traces = traces }) × (count ≡ open_count traces)
asked r old ids traces taken count seen was took most free known more =
    let fits : FitsPlaces r 1 = omega (arith, ap taken_places seen) in
    subst (λ (ts : List Trace). IsSoundRegistry (record (after_entry r) { traces = ts })
    × (count ≡ open_count ts)) (sym more) (
      sound-asked r ids was.0 fits (ap (λ (r : RegistryValue). first_unknown r ids) seen ∙ known),
      was.1 ∙ sym (open_count-asked ids r.traces),
    )

pub invariant_of-self : goal.invariant_of-self
invariant_of-self c = asked _ c.args.self.now c.args.ids _ _ _ c.self.view_is c.self.invariant
    c.taken-taken.ensures.value c.taken-taken.ensures.most c.if-taken-eq-MAX_PLACES.false
    (sym c.first_unknown.ensures ∙ c.in_default.is) c.raise_all.ensures
