-- A registry that stands for a history still does after a trace was opened.
use Rattle.std.proofs.Common.{◌≡◌, ℕ, ◌+◌, inl, inr, true, false, cond, eqb, List, [], ◌∷◌, ◌++◌, length}
use Rattle.std.proofs.Common.{Option, None, Some, refl, sym, ap, ◌∙◌, subst, arith, length-append}
use Rattle.std.specs.Prelude.{is_some}
use Rattle.std.specs.List.{range_with_len}
use Rattle.std.specs.Option.{option_or}
use Rattle.std.proofs.lemmas.Bool.{eq-eqb}
use Rattle.std.proofs.lemmas.Option.{same_Some}
use Rattle.std.proofs.lemmas.Bool.Decides.{eqb_tells, nat_tests}
use Rattle.list_lemmas.proofs.Filters.{count-empty}
use Rattle.list_lemmas.proofs.Options.{or_None}
use Rattle.list_lemmas.proofs.Positions.{slice_get-replicate}
use Rattle.list_lemmas.proofs.Ranges.{range_with_len-more}
use Rattle.trace_base.specs.declared.names.TraceInfo.{TraceInfo}
use Rattle.hall_history.proofs.HistoryMore.{count_more, info_more, opened_more, published_more}
use Rattle.hall_history.specs.History.{EntryOf, Opened, info_of, is_loading, is_open, opened_ids}
use Rattle.hall_history.specs.History.{published_count, published_of}
use Rattle.registry_core.proofs.KeepsMore.{promised_to, tracks_told}
use Rattle.registry_core.proofs.KeptTraces.{kept_id}
use Rattle.registry_core.proofs.LawEntries.{keeps_trace_of_others, open_of_others, opened_loads, opened_opens}
use Rattle.registry_core.proofs.LawEntries.{promised_opened, untold_stays}
use Rattle.registry_core.proofs.LawTraces.{kept_above, kept_more, open_above}
use Rattle.registry_core.proofs.LawTraces.{open_more}
use Rattle.registry_core.specs.Loading.{with_opened}
use Rattle.registry_core.specs.Registry.{IsSoundRegistry, RegistryValue, kept_trace, open_trace}
use Rattle.registry_core.specs.Standing.{IsUntold, KeepsTrace, KeepsTrack, RootsAre, StandsFor, Start}
use Rattle.registry_core.specs.Trace.{Trace, just_opened}
use Rattle.registry_core.specs.declared.track_root.TrackRoot.{TrackRoot}

-- what is told of a trace that was just opened
record IsNew {X : Type 0} (entries : List (EntryOf X)) (id : ℕ) (told : TraceInfo) : Type 0 where
  info : info_of entries id ≡ Some told
  count : published_count entries id ≡ 0
  published : (track : ℕ) → published_of entries id track ≡ None
  loading : is_loading entries id ≡ true

-- all of that is told once it was opened
opened_new : {X : Type 0} (entries : List (EntryOf X)) (id : ℕ) (info : TraceInfo) → IsUntold entries id
    → IsNew (entries ++ Opened id info ∷ []) id info
opened_new entries id info none = record {
  info = info_more entries (Opened id info) id ∙ ap
      (λ o. option_or o (cond (eqb id id) (Some info) None)) none.info ∙ ap (λ b. cond b (Some info) None)
      (eq-eqb id id refl);
  count = count_more entries (Opened id info) id ∙ omega (arith, none.count);
  published = λ track. published_more entries (Opened id info) id track ∙ or_None _ ∙ none.published track;
  loading = opened_loads entries id info none;
}

-- its slots are empty
keeps_none : {X : Type 0} (are : RootsAre X) (start : Start) (entries : List (EntryOf X)) (id track : ℕ)
    (slot : Option TrackRoot) → None ≡ slot → published_of entries id track ≡ None
    → KeepsTrack are start entries id track slot
keeps_none are start entries id track slot empty none =
    subst (KeepsTrack are start entries id track) empty none

-- it keeps what is told of it
keeps_new : {X : Type 0} (are : RootsAre X) (start : Start) (entries : List (EntryOf X)) (id : ℕ)
    (info : TraceInfo) → IsNew entries id info → KeepsTrace are start entries (just_opened id info)
keeps_new are start entries id info is = record {
  info = is.info;
  loading = sym is.loading;
  count = count-empty TrackRoot (length info.names.tracks) ∙ sym is.count;
  tracks = λ track slot at. keeps_none are start entries id track slot
      (slice_get-replicate (length info.names.tracks) track None slot at) (is.published track);
}

-- the traces that are open are those of the history
opens_more : {X : Type 0} (are : RootsAre X) (start : Start) (r : RegistryValue) (entries : List (EntryOf X))
    (info : TraceInfo) → StandsFor are start r entries → (id : ℕ)
    → is_open (entries ++ Opened r.next_id info ∷ []) id ≡ is_some
    (open_trace (r.traces ++ just_opened r.next_id info ∷ []) id)
opens_more are start r entries info was id =
    let new = entries ++ Opened r.next_id info ∷ [] in
    let all = open_more r.traces (just_opened r.next_id info) id in
    elim (eqb_tells r.next_id id) [
      | inl same ↦
          let on : is_open new id ≡ true = subst (λ i. is_open new i ≡ true) same.1
          (opened_opens entries r.next_id info (was.untold r.next_id (omega arith))) in
          let none : open_trace r.traces id ≡ None = open_above r.traces r.next_id id was.sound.given
          (omega arith) in
          on ∙ sym (ap is_some (rw (none, same.0) at all))
      | inr other ↦ open_of_others entries (Opened r.next_id info) id other.0 ∙ was.opens id ∙ sym
          (ap is_some (rw other.0 at all ∙ or_None (open_trace r.traces id)))
    ]

-- each trace keeps what is told of it
traces_more : {X : Type 0} (are : RootsAre X) (start : Start) (r : RegistryValue) (entries : List (EntryOf X))
    (info : TraceInfo) → StandsFor are start r entries → (id : ℕ) (t : Trace)
    → kept_trace (r.traces ++ just_opened r.next_id info ∷ []) id ≡ Some t
    → KeepsTrace are start (entries ++ Opened r.next_id info ∷ []) t
traces_more are start r entries info was id t kept =
    let new = entries ++ Opened r.next_id info ∷ [] in
    let all = kept_more r.traces (just_opened r.next_id info) id in
    elim (eqb_tells r.next_id id) [
      | inl same ↦
          let none : kept_trace r.traces id ≡ None = kept_above r.traces r.next_id id was.sound.given
          (omega arith) in
          let this : just_opened r.next_id info ≡ t = same_Some (just_opened r.next_id info) t
          (sym (rw (none, same.0) at all) ∙ kept) in
          subst (KeepsTrace are start new) this (keeps_new are start new r.next_id info
          (opened_new entries r.next_id info (was.untold r.next_id (omega arith))))
      | inr other ↦
          let there : kept_trace r.traces id ≡ Some t =
          sym (rw other.0 at all ∙ or_None (kept_trace r.traces id)) ∙ kept in
          let here : t.id ≡ id = kept_id r.traces id t there in
          keeps_trace_of_others are start entries (Opened r.next_id info) t
          (ap (eqb r.next_id) here ∙ other.0) (was.traces id t there)
    ]

-- a trace more is loading
pub stands-opened : {X : Type 0} (are : RootsAre X) (start : Start) (r : RegistryValue)
    (entries : List (EntryOf X)) (info : TraceInfo) → StandsFor are start r entries
    → IsSoundRegistry (with_opened r info)
    → StandsFor are start (with_opened r info) (entries ++ Opened r.next_id info ∷ [])
stands-opened are start r entries info was sound =
    let id = r.next_id in
    let new = entries ++ Opened id info ∷ [] in
    let n = length (opened_ids entries) in
    let more : opened_ids new ≡ opened_ids entries ++ id ∷ [] = opened_more entries (Opened id info) in
    let count : length (opened_ids new) ≡ n + 1 =
    ap length more ∙ length-append (opened_ids entries) (id ∷ []) in
    let is = opened_new entries id info (was.untold id (omega arith)) in
    let tracks = tracks_told new id info is.info in
    let promise : promised_to new id ≡ length info.names.tracks + 1 = rw (is.loading, tracks, is.count)
    (omega arith) in
    record {
      sound = sound;
      place = omega (arith, was.place, length-append entries (Opened id info ∷ []));
      ids = more ∙ ap (λ i. opened_ids entries ++ i ∷ []) was.next_id ∙ ap (λ xs. xs ++ (start.id + n) ∷ [])
          was.ids ∙ sym (range_with_len-more start.id n (start.id + n) refl)
          ∙ ap (range_with_len start.id) (sym count);
      next_id = omega (arith, was.next_id);
      promised = omega
          (arith, was.promised, promised_opened entries id info start.id n was.ids was.next_id);
      untold = λ other above.
          let ne : eqb id other ≡ false = grind (arith, nat_tests) in
          untold_stays entries (Opened id info) other ne (was.untold other (omega arith));
      opens = opens_more are start r entries info was;
      traces = traces_more are start r entries info was;
    }
