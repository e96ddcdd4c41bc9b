-- A listing is a question.
use Rattle.std.proofs.Common.{[], ◌∷◌, ◌++◌, subst, sym}
use Rattle.hall_history.specs.History.{Asked}
use Rattle.registry_core.specs.Registry.{RegistryValue}
use Rattle.registry_core.specs.Standing.{AreTrees, StandsFor}
use Rattle.registry_core.proofs.SoundLoads.{sound-entry}
use Rattle.registry_core.proofs.StandsAsked.{stands-asked}
use Rattle.registry_core.proofs.laws.listing.Goals as goal

pub returns : goal.returns
returns c key_at start old new entries listing stands (fits, is, becomes) =
    subst (λ (r : RegistryValue). StandsFor (AreTrees key_at) start r (entries ++ Asked ∷ []))
    (sym becomes)
    (stands-asked (AreTrees key_at) start old entries stands (sound-entry old stands.sound fits))
