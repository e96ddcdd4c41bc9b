-- What the registry keeps of a trace, and what is told of none, after one more entry.
use Rattle.std.proofs.Common.{◌≡◌, ℕ, ◌+◌, ◌-◌, ◌≤◌, List, [], ◌∷◌, ◌++◌, length, Option, None, Some}
use Rattle.std.proofs.Common.{refl, sym, ap, ap₂, ◌∙◌, cond, subst, arith, length-append}
use Rattle.std.specs.Prelude.{slice_get}
use Rattle.std.specs.Option.{option_map_or}
use Rattle.std.proofs.lemmas.List.{take-append-le}
use Rattle.trace_base.specs.declared.names.TraceInfo.{TraceInfo}
use Rattle.hall_history.specs.History.{EntryOf, info_of, is_loading, published_count, published_of, tracks_of}
use Rattle.hall_history.proofs.HistoryMore.{SameData, SameFate, tracks_same}
use Rattle.registry_core.specs.Standing.{IsPublishedBy, IsUntold, KeepsTrace, KeepsTrack, RootsAre, Start}
use Rattle.registry_core.specs.Trace.{Trace, promise_of}
use Rattle.registry_core.specs.declared.track_root.TrackRoot.{TrackRoot}

-- the entry that published a track does so in a history that goes on
pub IsPublishedBy-more : {X : Type 0} (entries : List (EntryOf X)) (e : EntryOf X) (id track n : ℕ) (what : X)
    → IsPublishedBy entries id track n what → IsPublishedBy (entries ++ e ∷ []) id track n what
IsPublishedBy-more entries e id track n what by =
    let most : n ≤ length entries = by.most in
    let less : n - 1 ≤ length entries = omega arith in
    record {
      least = by.least;
      most = omega (arith, length-append entries (e ∷ []));
      before = rw (take-append-le (n - 1) entries (e ∷ []) less) by.before;
      from = rw (take-append-le n entries (e ∷ []) most) by.from;
    }

-- a slot keeps what is published of a track, where nothing more is
pub KeepsTrack-more : {X : Type 0} (are : RootsAre X) (start : Start) (entries : List (EntryOf X))
    (e : EntryOf X) (id track : ℕ) (slot : Option TrackRoot)
    → published_of (entries ++ e ∷ []) id track ≡ published_of entries id track
    → KeepsTrack are start entries id track slot → KeepsTrack are start (entries ++ e ∷ []) id track slot
KeepsTrack-more are start entries e id track None same keeps = same ∙ keeps
KeepsTrack-more are start entries e id track (Some r) same (what, root, place, by) =
    (what, root, place, IsPublishedBy-more entries e id track (r.place - start.place) what by)

-- the two traces have the same id, names and tracks
pub record SameTracks (t u : Trace) : Type 0 where
  pub id : u.id ≡ t.id
  pub info : u.info ≡ t.info
  pub tracks : u.tracks ≡ t.tracks

-- so they have the same slots
slot_same : (t u : Trace) (track : ℕ) → SameTracks t u → slice_get t.tracks track ≡ slice_get u.tracks track
slot_same t u track same = rw same.tracks

-- what is kept of a trace is kept as well by one with the same tracks
pub KeepsTrace-same : {X : Type 0} (are : RootsAre X) (start : Start) (entries : List (EntryOf X))
    (t u : Trace) → SameTracks t u → u.loading ≡ t.loading → KeepsTrace are start entries t
    → KeepsTrace are start entries u
KeepsTrace-same are start entries t u same loading keeps = record {
  info = rw (same.id, same.info) keeps.info;
  loading = rw same.id (loading ∙ keeps.loading);
  count = rw (same.id, same.tracks) keeps.count;
  tracks = λ track slot at. subst (λ (i : ℕ). KeepsTrack are start entries i track slot) (sym same.id)
      (keeps.tracks track slot (slot_same t u track same ∙ at));
}

-- a trace keeps what is told of it, where an entry adds no data to it, whether it goes on loading or not
pub KeepsTrace-more : {X : Type 0} (are : RootsAre X) (start : Start) (entries : List (EntryOf X))
    (e : EntryOf X) (t u : Trace) → SameData entries (entries ++ e ∷ []) t.id → SameTracks t u
    → u.loading ≡ is_loading (entries ++ e ∷ []) t.id → KeepsTrace are start entries t
    → KeepsTrace are start (entries ++ e ∷ []) u
KeepsTrace-more are start entries e t u told same loading keeps = record {
  info = rw (same.id, same.info) (told.info ∙ keeps.info);
  loading = rw same.id loading;
  count = rw (same.id, same.tracks) (keeps.count ∙ sym told.count);
  tracks = λ track slot at. subst (λ (i : ℕ). KeepsTrack are start (entries ++ e ∷ []) i track slot)
      (sym same.id) (KeepsTrack-more are start entries e t.id track slot (told.published track)
      (keeps.tracks track slot (slot_same t u track same ∙ at)));
}

-- an entry about another trace, or about none, tells nothing of this one
pub IsUntold-more : {X : Type 0} (entries : List (EntryOf X)) (e : EntryOf X) (id : ℕ)
    → SameData entries (entries ++ e ∷ []) id → SameFate entries (entries ++ e ∷ []) id → IsUntold entries id
    → IsUntold (entries ++ e ∷ []) id
IsUntold-more entries e id told fate none = record {
  info = told.info ∙ none.info;
  count = told.count ∙ none.count;
  published = λ track. told.published track ∙ none.published track;
  sealed = fate.sealed ∙ none.sealed;
  ended = fate.ended ∙ none.ended;
}

-- the number of the tracks of a trace with this info
pub tracks_told : {X : Type 0} (entries : List (EntryOf X)) (id : ℕ) (info : TraceInfo)
    → info_of entries id ≡ Some info → tracks_of entries id ≡ length info.names.tracks
tracks_told entries id info told = ap (λ o. option_map_or (λ (i : TraceInfo). length i.names.tracks) o 0) told

-- the places that the history promises to a trace, if it is loading
abbrev pub promise_told : {X : Type 0} → List (EntryOf X) → ℕ → ℕ
promise_told entries id = tracks_of entries id - published_count entries id + 1

-- it is the same where the same data is told
pub promise_same : {X : Type 0} (old new : List (EntryOf X)) (id : ℕ) → SameData old new id
    → promise_told new id ≡ promise_told old id
promise_same old new id same = rw (same.count, tracks_same old new id same) refl

-- and in any case
abbrev pub promised_to : {X : Type 0} → List (EntryOf X) → ℕ → ℕ
promised_to entries id = cond (is_loading entries id) (promise_told entries id) 0

-- the trace has a slot for each of its tracks
abbrev pub HasSlots : Trace → Type 0
HasSlots t = length t.tracks ≡ length t.info.names.tracks

-- what is promised to a kept trace is what the history promises to it
pub promise_kept : {X : Type 0} (are : RootsAre X) (start : Start) (entries : List (EntryOf X)) (t : Trace)
    → KeepsTrace are start entries t → HasSlots t → promise_of t ≡ promised_to entries t.id
promise_kept are start entries t keeps long = ap₂ (λ b n. cond b n 0) keeps.loading
    (ap₂ (λ m n. m - n + 1) (long ∙ sym (tracks_told entries t.id t.info keeps.info)) keeps.count)
