-- A trace that is closed was open, and each refusal but one is a question.
use Rattle.std.proofs.Common.{◌-◌, [], ◌∷◌, ◌++◌, sym, subst, arith}
use Rattle.hall_history.specs.History.{Asked, Closed}
use Rattle.registry_core.specs.Registry.{FitsPlaces, RegistryValue}
use Rattle.registry_core.specs.Standing.{AreTrees, StandsFor}
use Rattle.registry_core.specs.Trace.{promise_of}
use Rattle.registry_core.proofs.EndedMore.{IsEndOf-closed}
use Rattle.registry_core.proofs.KeptTraces.{kept_own, open_kept}
use Rattle.registry_core.proofs.SoundLoads.{sound-ended, sound-entry, sound-kept}
use Rattle.registry_core.proofs.StandsAsked.{stands-asked}
use Rattle.registry_core.proofs.StandsEnded.{stands-gone, stands-kept}
use Rattle.registry_core.proofs.laws.closing.Goals as goal

pub returns-clause-ended : goal.returns-clause-ended
returns-clause-ended c key_at start old new entries id place roots stands
    (fits, t, sealed, unused, is, are, becomes) =
    let was = open_kept old.traces id t stands.sound.rising sealed.is_open in
    let room : FitsPlaces old (1 - promise_of t) = omega (arith, fits) in
    subst (λ (r : RegistryValue). StandsFor (AreTrees key_at) start r (entries ++ Closed id ∷ []))
    (sym becomes)
    (stands-gone (AreTrees key_at) start old entries (Closed id) id t stands was.0 (IsEndOf-closed id)
    (sound-ended old t stands.sound (kept_own old.traces id t was.0) was.1 room))

pub returns-clause-kept : goal.returns-clause-kept
returns-clause-kept c key_at start old new entries id place stands (fits, t, sealed, used, is, becomes) =
    let was = open_kept old.traces id t stands.sound.rising sealed.is_open in
    let room : FitsPlaces old (1 - promise_of t) = omega (arith, fits) in
    subst (λ (r : RegistryValue). StandsFor (AreTrees key_at) start r (entries ++ Closed id ∷ []))
    (sym becomes)
    (stands-kept (AreTrees key_at) start old entries (Closed id) id t stands was.0 (IsEndOf-closed id)
    (sound-kept old t stands.sound (kept_own old.traces id t was.0) was.1 room used))

pub returns-clause-loading : goal.returns-clause-loading
returns-clause-loading c key_at start old new entries id place stands
    (fits, t, opened, loading, is, becomes) =
    subst (λ (r : RegistryValue). StandsFor (AreTrees key_at) start r (entries ++ Asked ∷ []))
    (sym becomes)
    (stands-asked (AreTrees key_at) start old entries stands (sound-entry old stands.sound fits))

pub returns-clause-unknown : goal.returns-clause-unknown
returns-clause-unknown c key_at start old new entries id next place stands
    (fits, none, next_is, is, becomes) =
    subst (λ (r : RegistryValue). StandsFor (AreTrees key_at) start r (entries ++ Asked ∷ []))
    (sym becomes)
    (stands-asked (AreTrees key_at) start old entries stands (sound-entry old stands.sound fits))
