use Rattle.std.proofs.Common.{◌++◌, ◌∷◌, [], arith, sym, subst}
use Rattle.hall_history.specs.History.{Asked, Opened}
use Rattle.registry_core.proofs.SoundLoads.{sound-entry, sound-opened}
use Rattle.registry_core.proofs.StandsAsked.{stands-asked}
use Rattle.registry_core.proofs.StandsOpened.{stands-opened}
use Rattle.registry_core.specs.Registry.{RegistryValue}
use Rattle.registry_core.specs.Standing.{AreTrees, StandsFor}
use Rattle.registry_core.specs.declared.answers.Opened.{Opened as OpenedTrace}
use Rattle.registry_core.proofs.laws.admitting.Goals as goal

pub returns-clause-opened : goal.returns-clause-opened
returns-clause-opened c key_at start old new entries info o was legal (fits, few, opened, is) =
    let are = AreTrees key_at in
    let sound = sound-opened old info was.sound fits few legal in
    subst (λ (o : OpenedTrace). StandsFor are start new (entries ++ Opened o.id info ∷ [])) (sym opened)
    (subst (λ (r : RegistryValue). StandsFor are start r (entries ++ Opened old.next_id info ∷ [])) (sym is)
    (stands-opened are start old entries info was sound))

pub returns-clause-full : goal.returns-clause-full
returns-clause-full c key_at start old new entries info place was (fits, full, at, is) =
    subst (λ (r : RegistryValue). StandsFor (AreTrees key_at) start r (entries ++ Asked ∷ [])) (sym is)
    (stands-asked (AreTrees key_at) start old entries was (sound-entry old was.sound (omega (arith, fits))))
