-- What the registry of a hall knows of a loading trace of its history.
use Rattle.std.proofs.Common.{◌-◌, cond, ◌≡◌, ℕ, ◌+◌, ◌<◌, ◌≤◌, true, List, length, get_or, Option, None, Some, refl, sym, ap}
use Rattle.std.proofs.Common.{◌∙◌, arith, length-append, [], ◌∷◌, ◌++◌}
use Rattle.std.specs.Prelude.{is_some, slice_get}
use Rattle.std.proofs.lemmas.Option.{slice_get-get_or}
use Rattle.list_lemmas.proofs.Options.{given_some}
use Rattle.hall_history.proofs.HistoryFronts.{loading_open, published_stays}
use Rattle.hall_history.specs.declared.asks.AskIds.{AskIds}
use Rattle.std.proofs.lemmas.List.{length-map}
use Rattle.node_store.specs.Given.{ever}
use Rattle.node_store.specs.Kept.{NodesKept}
use Rattle.hall_history.specs.History.{Entry, EntryOf, is_loading, published_count, published_of, tracks_of}
use Rattle.node_key.specs.Stands.{KeyAt}
use Rattle.registry_core.proofs.FollowsRegistry.{loads_told, slots_told}
use Rattle.registry_core.proofs.KeptTraces.{kept_id}
use Rattle.registry_core.proofs.OneTrace.{kept-some, sum-without}
use Rattle.registry_core.specs.Loading.{AwaitsSeal, AwaitsTrack, IsLoadingTrace}
use Rattle.registry_core.specs.Registry.{RegistryValue, kept_trace}
use Rattle.registry_core.specs.Trace.{promise_of, published_tracks}
use Rattle.registry_core.specs.Standing.{AreTrees, KeepsTrack, StandsFor, Start}
use Rattle.registry_core.specs.declared.track_root.TrackRoot.{TrackRoot}
use Rattle.plain_hall.specs.Orderly.{IsOrderly}
use Rattle.plain_hall.specs.Rooted.{told_by, tree_of_root}
use Rattle.plain_hall.specs.Whole.{IsSoundHall, at_first}
use Rattle.plain_hall.specs.declared.root.Root.{Root}
use Rattle.plain_hall.proofs.Found.{not_published}

-- it keeps the trace, which is loading there
pub loading_kept : (key_at : KeyAt) (start : Start) (r : RegistryValue) (entries : List Entry) (id : ℕ)
    → StandsFor (AreTrees key_at) start r entries → is_loading entries id ≡ true → IsLoadingTrace r id
loading_kept key_at start r entries id stands loading =
    let opens : true ≡ is_some (Rattle.registry_core.specs.Registry.open_trace r.traces id) =
    sym (loading_open entries id loading) ∙ stands.opens id in
    let (t, kept) = given_some (kept_trace r.traces id) (kept-some r.traces id opens) in
    (t, kept, loads_told (AreTrees key_at) start r entries id t stands kept ∙ loading)

-- the slot of a track of which nothing is published is free
free_slot : (key_at : KeyAt) (start : Start) (entries : List Entry) (id track : ℕ) (slot : Option TrackRoot)
    → KeepsTrack (AreTrees key_at) start entries id track slot → published_of entries id track ≡ None
    → slot ≡ None
free_slot key_at start entries id track None keeps none = refl
free_slot key_at start entries id track (Some q) (what, is, from, by) none =
    let there = sym (published_stays entries _ id track what by.from) ∙ none in absurd cc

-- it awaits the track that comes next
pub awaits_track : (key_at : KeyAt) (start : Start) (r : RegistryValue) (entries : List Entry) (id track : ℕ)
    → StandsFor (AreTrees key_at) start r entries → IsOrderly entries → is_loading entries id ≡ true
    → track ≡ published_count entries id → track < tracks_of entries id → AwaitsTrack r id track
awaits_track key_at start r entries id track stands orderly loading next within =
    let (t, kept, loads) = loading_kept key_at start r entries id stands loading in
    let below : track < length t.tracks =
    omega (arith, within, slots_told (AreTrees key_at) start r entries id t stands kept) in
    let slot : Option TrackRoot = get_or t.tracks track None in
    let at : slice_get t.tracks track ≡ Some slot = slice_get-get_or t.tracks track None below in
    let none : published_of entries t.id track ≡ None =
    ap (λ n. published_of entries n track) (kept_id r.traces id t kept)
    ∙ not_published entries id track orderly (omega (arith, next)) in (
      t,
      kept,
      loads,
      at ∙ ap Some (free_slot key_at start entries t.id track slot
          ((stands.traces id t kept).tracks track slot at) none),
    )

-- it awaits the end of the load where all tracks are published
pub awaits_seal : (key_at : KeyAt) (start : Start) (r : RegistryValue) (entries : List Entry) (id : ℕ)
    → StandsFor (AreTrees key_at) start r entries → is_loading entries id ≡ true
    → published_count entries id ≡ tracks_of entries id → AwaitsSeal r id
awaits_seal key_at start r entries id stands loading all =
    let (t, kept, loads) = loading_kept key_at start r entries id stands loading in (
      t,
      kept,
      loads,
      (stands.traces id t kept).count ∙ ap (published_count entries) (kept_id r.traces id t kept) ∙ all
          ∙ slots_told (AreTrees key_at) start r entries id t stands kept,
    )

-- a place is promised to the trace
pub owes : (key_at : KeyAt) (start : Start) (r : RegistryValue) (entries : List Entry) (id : ℕ)
    → StandsFor (AreTrees key_at) start r entries → is_loading entries id ≡ true → 1 ≤ r.promised
owes key_at start r entries id stands loading =
    let (t, kept, loads) = loading_kept key_at start r entries id stands loading in
    let one : promise_of t ≡ length t.tracks - published_tracks t + 1 =
    ap (λ b. cond b (length t.tracks - published_tracks t + 1) 0) loads in
    omega (
      arith,
      stands.sound.promises,
      sum-without promise_of r.traces id t stands.sound.rising kept,
      one,
    )

-- the place of the entry that is made next
pub last_place : (key_at : KeyAt) (r : RegistryValue) (old new : List Entry) (e : Entry) (place : ℕ)
    → StandsFor (AreTrees key_at) at_first r old → new ≡ old ++ e ∷ [] → place ≡ r.place + 1
    → place ≡ length new
last_place key_at r old new e place stands seen at =
    omega (arith, stands.place, at, ap length seen, length-append old (e ∷ []))

-- it is the length of the kept history then
pub told_length : (s : NodesKept) (r : RegistryValue) (queries : List AskIds) (old new : List (EntryOf Root))
    (e : EntryOf Root) (place : ℕ) → IsSoundHall s r old queries → new ≡ old ++ e ∷ []
    → place ≡ r.place + 1 → place ≡ length new
told_length s r queries old new e place whole seen at = omega (
  arith,
  whole.stands.place,
  at,
  ap length seen,
  length-append old (e ∷ []),
  length-map old (told_by (tree_of_root (ever s.given))),
)
