-- What a registry that stands for a history is ready for, told by the history; and whose roots come free.
use Rattle.std.proofs.Common.{◌≡◌, ◌<◌, ◌∙◌, ℕ, zero, suc, true, List, [], ◌∷◌, Option}
use Rattle.std.proofs.Common.{None, Some, ap, arith, count_by, length, refl, sym}
use Rattle.std.proofs.Common.{Contains}
use Rattle.std.specs.Prelude.{IsSome, is_some, slice_get}
use Rattle.std.proofs.lemmas.Bool.{false≢true}
use Rattle.std.proofs.lemmas.List.Folds.{find_at}
use Rattle.list_lemmas.proofs.Filters.{count_by-cons}
use Rattle.std.proofs.lemmas.Option.{none-some}
use Rattle.list_lemmas.proofs.Members.{Contains-from_IsAmong, IsAmong-flat_map, IsAmong-from_place}
use Rattle.hall_history.proofs.HistoryFronts.{loading_open, published_stays}
use Rattle.hall_history.specs.History.{Entry, is_loading, published_of, tracks_of}
use Rattle.node_key.specs.Stands.{KeyAt, Stands}
use Rattle.node_key.specs.Tree.{Tree}
use Rattle.registry_core.proofs.FollowsRegistry.{loads_told, slots_told}
use Rattle.registry_core.proofs.KeptTraces.{kept_id, open_kept}
use Rattle.registry_core.proofs.RootsOfTracks.{slot_root}
use Rattle.registry_core.specs.Loading.{AwaitsSeal, AwaitsTrack, IsLoadingTrace}
use Rattle.registry_core.specs.Registry.{RegistryValue, has_id, kept_trace, open_trace}
use Rattle.registry_core.specs.Roots.{roots_kept}
use Rattle.registry_core.specs.Standing.{AreTrees, KeepsTrack, StandsFor, Start}
use Rattle.registry_core.specs.Trace.{Trace, roots_in}
use Rattle.registry_core.specs.declared.track_root.TrackRoot.{TrackRoot}

-- ---- a trace that the history tells of as loading

module _ (key_at : KeyAt) (start : Start) (r : RegistryValue) (entries : List Entry) (id : ℕ)
    (was : StandsFor (AreTrees key_at) start r entries) (loading : is_loading entries id ≡ true)
  where
    -- it is open, so it is kept
    the_trace : (o : Option Trace) → open_trace r.traces id ≡ o → is_some o ≡ true
        → (t : Trace) × (kept_trace r.traces id ≡ Some t)
    the_trace None is some = absurd (false≢true some)
    the_trace (Some t) is some = (t, (open_kept r.traces id t was.sound.rising is).0)

    pub loading_kept : (t : Trace) × (kept_trace r.traces id ≡ Some t)
    loading_kept = the_trace (open_trace r.traces id) refl (sym (was.opens id) ∙ loading_open entries id loading)

    -- and loading there
    pub loading_there : (t : Trace) → kept_trace r.traces id ≡ Some t → t.loading ≡ true
    loading_there t kept = loads_told (AreTrees key_at) start r entries id t was kept ∙ loading

    pub is_loading_trace : IsLoadingTrace r id
    is_loading_trace = (loading_kept.0, loading_kept.1, loading_there loading_kept.0 loading_kept.1)

    -- a slot of a track of which nothing is published is free
    free_slot : (t : Trace) (track : ℕ) (slot : Option TrackRoot) → kept_trace r.traces id ≡ Some t
        → slice_get t.tracks track ≡ Some slot → published_of entries id track ≡ None → slot ≡ None
    free_slot t track None kept at none = refl
    free_slot t track (Some q) kept at none =
        let (what, is, from, by) = (was.traces id t kept).tracks track (Some q) at in
        let told = published_stays entries _ t.id track what by.from in
        absurd (none-some what (sym none ∙ ap (λ n. published_of entries n track) (sym (kept_id r.traces id t kept))
        ∙ told))

    -- a track is awaited that the trace has and of which nothing is published
    pub awaits_track : (track : ℕ) → track < tracks_of entries id → published_of entries id track ≡ None
        → AwaitsTrack r id track
    awaits_track track within none =
        let (t, kept) = loading_kept in
        let inside : track < length t.tracks =
        omega (arith, within, slots_told (AreTrees key_at) start r entries id t was kept) in
        let at = found_slot t.tracks track inside in
        (t, kept, loading_there t kept, at.1 ∙ ap Some (free_slot t track at.0 kept at.1 none))
      where
        found_slot : (slots : List (Option TrackRoot)) (i : ℕ) → i < length slots
            → (slot : Option TrackRoot) × (slice_get slots i ≡ Some slot)
        found_slot [] i within = absurd (omega (arith, within))
        found_slot (slot ∷ slots) zero within = (slot, refl)
        found_slot (slot ∷ slots) (suc i) within = found_slot slots i (omega (arith, within))

    -- a slot of a track that is published is filled
    filled_slot : (t : Trace) (track : ℕ) (slot : Option TrackRoot) → kept_trace r.traces id ≡ Some t
        → slice_get t.tracks track ≡ Some slot → IsSome (published_of entries id track) → is_some slot ≡ true
    filled_slot t track None kept at some =
        let none = (was.traces id t kept).tracks track None at in
        absurd (false≢true (sym (ap is_some (ap (λ n. published_of entries n track)
        (sym (kept_id r.traces id t kept)) ∙ none)) ∙ some))
    filled_slot t track (Some q) kept at some = refl

    -- the seal is awaited where each track is published
    pub awaits_seal : ((track : ℕ) → track < tracks_of entries id → IsSome (published_of entries id track))
        → AwaitsSeal r id
    awaits_seal all =
        let (t, kept) = loading_kept in
        let count = slots_told (AreTrees key_at) start r entries id t was kept in (
          t,
          kept,
          loading_there t kept,
          filled t.tracks (λ i slot at. filled_slot t i slot kept at
              (all i (omega (arith, count, inside t.tracks i slot at)))),
        )
      where
        inside : (slots : List (Option TrackRoot)) (i : ℕ) (slot : Option TrackRoot)
            → slice_get slots i ≡ Some slot → i < length slots
        inside [] i slot at = absurd (none-some slot at)
        inside (s ∷ slots) zero slot at = omega arith
        inside (s ∷ slots) (suc i) slot at = omega (arith, inside slots i slot at)

        filled : (slots : List (Option TrackRoot))
            → ((i : ℕ) (slot : Option TrackRoot) → slice_get slots i ≡ Some slot → is_some slot ≡ true)
            → count_by is_some slots ≡ length slots
        filled [] each = refl
        filled (None ∷ slots) each = absurd (false≢true (each 0 None refl))
        filled (Some q ∷ slots) each =
            omega (arith, count_by-cons is_some (Some q) slots, filled slots (λ i. each (suc i)))

-- ---- the trees of the roots that are kept

-- a root in a slot of a kept trace is among the roots that are kept
pub slot_kept : (r : RegistryValue) (id track : ℕ) (t : Trace) (q : TrackRoot) → kept_trace r.traces id ≡ Some t
    → slice_get t.tracks track ≡ Some (Some q) → Contains (roots_kept r.traces) q.root
slot_kept r id track t q kept at =
    Contains-from_IsAmong (roots_kept r.traces) q.root
    (IsAmong-flat_map (λ (u : Trace). roots_in u.tracks) r.traces t q.root
    (IsAmong-from_place r.traces t _ (sym (find_at (has_id id) r.traces) ∙ kept))
    (slot_root t.tracks track q at))

module _ (key_at others : KeyAt) (start : Start) (r : RegistryValue) (entries : List Entry)
    (stays : (n : ℕ) (t : Tree) → Contains (roots_kept r.traces) n → Stands key_at n t → Stands others n t)
    (was : StandsFor (AreTrees key_at) start r entries)
  where
    -- a slot keeps its track where its root stands for the tree that it stood for
    keeps_track : (t : Trace) (id track : ℕ) (slot : Option TrackRoot) → kept_trace r.traces id ≡ Some t
        → slice_get t.tracks track ≡ Some slot → KeepsTrack (AreTrees key_at) start entries t.id track slot
        → KeepsTrack (AreTrees others) start entries t.id track slot
    keeps_track t id track None kept at keeps = keeps
    keeps_track t id track (Some q) kept at (what, (begins, stands), since, by) =
        (what, (begins, stays q.root what.tree (slot_kept r id track t q kept at) stands), since, by)

    -- the registry stands for its history where each root that it keeps stands for what it stood for
    pub keys_of_roots : StandsFor (AreTrees others) start r entries
    keys_of_roots = record {
      sound = was.sound;
      place = was.place;
      ids = was.ids;
      next_id = was.next_id;
      promised = was.promised;
      untold = was.untold;
      opens = was.opens;
      traces = λ id t at.
          let keeps = was.traces id t at in
          record {
            info = keeps.info;
            loading = keeps.loading;
            count = keeps.count;
            tracks = λ track slot is. keeps_track t id track slot at is (keeps.tracks track slot is);
          };
    }
