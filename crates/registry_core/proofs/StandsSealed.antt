-- A registry that stands for a history still does after a load has ended.
use Rattle.std.proofs.Common.{◌≡◌, ℕ, List, [], ◌∷◌, ◌++◌, length, Some, refl, sym}
use Rattle.std.proofs.Common.{subst, IsTrue}
use Rattle.list_lemmas.proofs.All.{All-found}
use Rattle.hall_history.proofs.HistoryMore.{data_sealed}
use Rattle.hall_history.specs.History.{EntryOf, Sealed}
use Rattle.registry_core.proofs.KeepsMore.{KeepsTrace-more}
use Rattle.registry_core.proofs.KeptTraces.{kept_id}
use Rattle.registry_core.proofs.LawEntries.{sealed_loaded}
use Rattle.registry_core.proofs.SoundLoads.{promise-sealed}
use Rattle.registry_core.proofs.StandsPromised.{IsPromised, IsPromised-from, stands-promised}
use Rattle.registry_core.specs.Loading.{AwaitsSeal, with_sealed}
use Rattle.registry_core.specs.Registry.{IsSoundRegistry, RegistryValue, has_id, kept_trace}
use Rattle.registry_core.specs.Standing.{RootsAre, StandsFor, Start}
use Rattle.registry_core.specs.Trace.{IsSoundTrace, Trace, loaded, published_tracks}

-- the end of a load is promised
sealed_promised : {X : Type 0} (are : RootsAre X) (start : Start) (r : RegistryValue)
    (entries : List (EntryOf X)) (t : Trace) → StandsFor are start r entries
    → kept_trace r.traces t.id ≡ Some t → IsTrue t.loading → published_tracks t ≡ length t.tracks
    → IsPromised are start entries (Sealed t.id) loaded t
sealed_promised are start r entries t was kept loading all =
    let id = t.id in
    let slots = (All-found (IsSoundTrace r.place) (has_id id) r.traces t was.sound.each kept).tracks in
    IsPromised-from are start r entries (Sealed id) loaded t was kept loading refl refl (λ other. refl)
    (λ t. refl) (λ t. refl) (promise-sealed t loading all) slots
    (KeepsTrace-more are start entries (Sealed id) t (loaded t) (data_sealed entries id id)
    (record { id = refl; info = refl; tracks = refl }) (sym (sealed_loaded entries id))
    (was.traces id t kept))

-- a trace fewer is loading
pub stands-sealed : {X : Type 0} (are : RootsAre X) (start : Start) (r : RegistryValue)
    (entries : List (EntryOf X)) (id : ℕ) → StandsFor are start r entries → AwaitsSeal r id
    → IsSoundRegistry (with_sealed r id) → StandsFor are start (with_sealed r id) (entries ++ Sealed id ∷ [])
stands-sealed are start r entries id was (t, kept, loading, all) sound =
    let here : id ≡ t.id = sym (kept_id r.traces id t kept) in
    let promised = sealed_promised are start r entries t was
    (subst (λ i. kept_trace r.traces i ≡ Some t) here kept) loading all in
    stands-promised are start r entries (Sealed id) loaded t was kept
    (subst (λ i. IsPromised are start entries (Sealed i) loaded t) (sym here) promised) sound
