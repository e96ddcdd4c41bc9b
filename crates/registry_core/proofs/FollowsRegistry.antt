-- Which entries may follow a history that a registry stands for.
use Rattle.std.proofs.Common.{◌≡◌, ℕ, ◌<◌, List, [], ◌∷◌, length, Option, None, Some, suc}
use Rattle.std.proofs.Common.{zero, refl, sym, ap, ◌∙◌, subst, arith}
use Rattle.std.specs.Prelude.{count_by, is_some, slice_get, IsSome}
use Rattle.std.proofs.lemmas.List.Sums.{count_by-le-length}
use Rattle.list_lemmas.proofs.All.{All-found}
use Rattle.list_lemmas.proofs.Filters.{count_by-cons}
use Rattle.hall_history.specs.History.{EntryOf, is_loading, published_of, tracks_of}
use Rattle.hall_history.proofs.HistoryFronts.{published_stays}
use Rattle.registry_core.specs.declared.track_root.TrackRoot.{TrackRoot}
use Rattle.registry_core.specs.Registry.{RegistryValue, has_id, kept_trace}
use Rattle.registry_core.specs.Standing.{KeepsTrack, RootsAre, StandsFor, Start}
use Rattle.registry_core.specs.Trace.{IsSoundTrace, Trace, published_tracks}
use Rattle.registry_core.proofs.KeepsMore.{tracks_told}
use Rattle.registry_core.proofs.KeptTraces.{kept_id}

-- a kept trace that is loading is so in the history
pub loads_told : {X : Type 0} (are : RootsAre X) (start : Start) (r : RegistryValue)
    (entries : List (EntryOf X)) (id : ℕ) (t : Trace) → StandsFor are start r entries
    → kept_trace r.traces id ≡ Some t → t.loading ≡ is_loading entries id
loads_told are start r entries id t stands kept = (stands.traces id t kept).loading
    ∙ ap (is_loading entries) (kept_id r.traces id t kept)

-- the history tells of as many tracks of it as it has slots
pub slots_told : {X : Type 0} (are : RootsAre X) (start : Start) (r : RegistryValue)
    (entries : List (EntryOf X)) (id : ℕ) (t : Trace) → StandsFor are start r entries
    → kept_trace r.traces id ≡ Some t → tracks_of entries id ≡ length t.tracks
slots_told are start r entries id t stands kept =
    let sound = All-found (IsSoundTrace r.place) (has_id id) r.traces t stands.sound.each kept in
    ap (tracks_of entries) (sym (kept_id r.traces id t kept))
    ∙ tracks_told entries t.id t.info (stands.traces id t kept).info ∙ sym sound.tracks

-- of a track that a loading trace awaits nothing is published
pub awaited_none : {X : Type 0} (are : RootsAre X) (start : Start) (r : RegistryValue)
    (entries : List (EntryOf X)) (id track : ℕ) (t : Trace) → StandsFor are start r entries
    → kept_trace r.traces id ≡ Some t → slice_get t.tracks track ≡ Some None
    → published_of entries id track ≡ None
awaited_none are start r entries id track t stands kept free =
    ap (λ n. published_of entries n track) (sym (kept_id r.traces id t kept))
    ∙ (stands.traces id t kept).tracks track None free

-- where all slots are filled, each is
filled_at : (slots : List (Option TrackRoot)) (track : ℕ) → count_by is_some slots ≡ length slots
    → track < length slots → (r : TrackRoot) × (slice_get slots track ≡ Some (Some r))
filled_at [] track all within = absurd (omega (arith, within))
filled_at (None ∷ slots) track all within =
    absurd (omega (arith, all, count_by-cons is_some None slots, count_by-le-length is_some slots))
filled_at (Some r ∷ slots) zero all within = (r, refl)
filled_at (Some r ∷ slots) (suc track) all within =
    filled_at slots track (omega (arith, all, count_by-cons is_some (Some r) slots)) (omega (arith, within))

-- so each track of a trace with all its tracks is published
pub all_told : {X : Type 0} (are : RootsAre X) (start : Start) (r : RegistryValue)
    (entries : List (EntryOf X)) (id track : ℕ) (t : Trace) → StandsFor are start r entries
    → kept_trace r.traces id ≡ Some t → published_tracks t ≡ length t.tracks
    → track < tracks_of entries id → IsSome (published_of entries id track)
all_told {X} are start r entries id track t stands kept all within =
    let (root, at) = filled_at t.tracks track all
    (omega (arith, within, slots_told are start r entries id t stands kept)) in
    subst (λ n. IsSome (published_of entries n track)) (kept_id r.traces id t kept)
    (told root ((stands.traces id t kept).tracks track (Some root) at))
  where
    told : (q : TrackRoot) → KeepsTrack are start entries t.id track (Some q)
        → IsSome (published_of entries t.id track)
    told q (what, is, from, by) = ap is_some (published_stays entries _ t.id track what by.from)
