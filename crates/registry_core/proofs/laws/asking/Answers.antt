-- A question for traces adds users to them, which the history doesn't tell.
use Rattle.std.proofs.Common.{[], ◌∷◌, ◌++◌, subst, sym, refl}
use Rattle.hall_history.specs.History.{Asked}
use Rattle.registry_core.specs.Asking.{times_asked, with_users}
use Rattle.registry_core.specs.Registry.{RegistryValue, after_entry}
use Rattle.registry_core.specs.Standing.{AreTrees, StandsFor}
use Rattle.registry_core.specs.Trace.{used_more}
use Rattle.registry_core.proofs.SoundAsks.{sound-asked}
use Rattle.registry_core.proofs.SoundLoads.{sound-entry}
use Rattle.registry_core.proofs.StandsAsked.{stands-asked}
use Rattle.registry_core.proofs.StandsGiven.{differs-users, stands-given}
use Rattle.registry_core.proofs.laws.asking.Goals as goal

pub returns-clause-pinned : goal.returns-clause-pinned
returns-clause-pinned c key_at start old new entries ids place stands (fits, known, is, becomes) =
    subst (λ (r : RegistryValue). StandsFor (AreTrees key_at) start r (entries ++ Asked ∷ []))
    (sym becomes)
    (stands-given (AreTrees key_at) start (after_entry old) (entries ++ Asked ∷ [])
    (with_users ids old.traces)
    (stands-asked (AreTrees key_at) start old entries stands (sound-entry old stands.sound fits))
    (differs-users (λ t. used_more (times_asked ids t.id) t) old.traces
    (λ t. (record { id = refl; info = refl; tracks = refl }, refl, refl)))
    (sound-asked old ids stands.sound fits known))

pub returns-clause-unknown : goal.returns-clause-unknown
returns-clause-unknown c key_at start old new entries ids id next place stands asks =
    subst (λ (r : RegistryValue). StandsFor (AreTrees key_at) start r (entries ++ Asked ∷ [])) (sym asks.4)
    (stands-asked (AreTrees key_at) start old entries stands (sound-entry old stands.sound asks.0))
