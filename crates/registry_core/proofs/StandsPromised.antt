-- A registry that stands for a history still does after an entry that was promised to a loading trace.
use Rattle.std.proofs.Common.{◌≡◌, ℕ, ◌+◌, ◌<◌, inl, inr, true, false, cond, eqb, List, [], ◌∷◌, ◌++◌, length}
use Rattle.std.proofs.Common.{None, Some, IsTrue, sym, ap, ◌∙◌, subst, arith, length-append}
use Rattle.std.specs.Option.{option_to_list}
use Rattle.std.specs.List.{range_with_len}
use Rattle.std.proofs.lemmas.Bool.Decides.{eqb_tells, nat_tests}
use Rattle.std.proofs.lemmas.List.{append-nil}
use Rattle.std.proofs.lemmas.Option.{same_Some}
use Rattle.list_lemmas.proofs.All.{All-found}
use Rattle.list_lemmas.proofs.Options.{option_map_found}
use Rattle.hall_history.proofs.HistoryMore.{opened_more, subject}
use Rattle.hall_history.specs.History.{EntryOf, ends, is_loading, opened_id, opened_ids}
use Rattle.hall_history.proofs.HistoryFronts.{loading_open}
use Rattle.registry_core.proofs.KeepsMore.{HasSlots, promise_kept, promised_to}
use Rattle.registry_core.proofs.KeptTraces.{kept_id}
use Rattle.registry_core.proofs.LawEntries.{keeps_trace_of_others, open_stays, open_within}
use Rattle.registry_core.proofs.LawEntries.{promised_more, untold_stays}
use Rattle.registry_core.proofs.LawTraces.{KeepsId, KeepsOpen, changed_at, kept_changed, open_changed}
use Rattle.registry_core.specs.Loading.{after_promised}
use Rattle.registry_core.specs.Registry.{IsSoundRegistry, RegistryValue, has_id, kept_trace, with_changed}
use Rattle.registry_core.specs.Standing.{KeepsTrace, RootsAre, StandsFor, Start}
use Rattle.registry_core.specs.Trace.{IsSoundTrace, Trace, promise_of}

-- the entry is about this kept trace, opens and ends none, and f, which keeps it open, changes it as is told
pub record IsPromised {X : Type 0} (are : RootsAre X) (start : Start) (entries : List (EntryOf X))
    (e : EntryOf X) (f : Trace → Trace) (t : Trace) : Type 0 where
  pub about : subject e ≡ t.id
  pub loads : is_loading entries (subject e) ≡ true
  pub opens_none : opened_id e ≡ None
  pub ends_none : (id : ℕ) → ends id e ≡ false
  pub keeps_id : KeepsId f
  pub keeps_open : KeepsOpen f
  pub promise : promised_to entries (subject e) ≡ promised_to (entries ++ e ∷ []) (subject e) + 1
  pub keeps : KeepsTrace are start (entries ++ e ∷ []) (f t)

-- that holds where f takes one of the places away that are promised to the trace
pub IsPromised-from : {X : Type 0} (are : RootsAre X) (start : Start) (r : RegistryValue)
    (entries : List (EntryOf X)) (e : EntryOf X) (f : Trace → Trace) (t : Trace)
    → StandsFor are start r entries → kept_trace r.traces t.id ≡ Some t → IsTrue t.loading
    → subject e ≡ t.id → opened_id e ≡ None → ((id : ℕ) → ends id e ≡ false) → KeepsId f → KeepsOpen f
    → 1 + promise_of (f t) ≡ promise_of t → HasSlots (f t) → KeepsTrace are start (entries ++ e ∷ []) (f t)
    → IsPromised are start entries e f t
IsPromised-from are start r entries e f t was kept loading about opens ends same stays one slots now =
    let keeps = was.traces t.id t kept in
    let old_slots = (All-found (IsSoundTrace r.place) (has_id t.id) r.traces t was.sound.each kept).tracks in
    let new = entries ++ e ∷ [] in
    let left : promise_of (f t) ≡ promised_to new t.id =
    promise_kept are start new (f t) now slots ∙ ap (promised_to new) (same t) in
    record {
      about = about;
      loads = ap (is_loading entries) about ∙ sym keeps.loading ∙ loading;
      opens_none = opens;
      ends_none = ends;
      keeps_id = same;
      keeps_open = stays;
      promise = subst (λ id. promised_to entries id ≡ promised_to new id + 1) (sym about)
          (omega (arith, promise_kept are start entries t keeps old_slots, left, one));
      keeps = now;
    }

-- each trace keeps what is told of it
traces_promised : {X : Type 0} (are : RootsAre X) (start : Start) (r : RegistryValue)
    (entries : List (EntryOf X)) (e : EntryOf X) (f : Trace → Trace) (t : Trace)
    → StandsFor are start r entries → kept_trace r.traces (subject e) ≡ Some t
    → IsPromised are start entries e f t → (id : ℕ) (u : Trace)
    → kept_trace (with_changed (subject e) f r.traces) id ≡ Some u
    → KeepsTrace are start (entries ++ e ∷ []) u
traces_promised are start r entries e f t was kept is id u now =
    let from = option_map_found (changed_at (subject e) f) (kept_trace r.traces id) u
    (sym (kept_changed (subject e) f r.traces id is.keeps_id) ∙ now) in
    let old : Trace = from.0 in
    let here : old.id ≡ id = kept_id r.traces id old from.1 in
    elim (eqb_tells old.id (subject e)) [
      | inl same ↦
          let at : t ≡ old = same_Some t old
          (sym kept ∙ ap (kept_trace r.traces) (sym same.1 ∙ here) ∙ from.1) in
          let made : f t ≡ u = ap f at ∙ sym (ap (λ b. cond b (f old) old) same.0) ∙ from.2 in
          subst (KeepsTrace are start (entries ++ e ∷ [])) made is.keeps
      | inr other ↦
          let made : old ≡ u = sym (ap (λ b. cond b (f old) old) other.0) ∙ from.2 in
          let ne : eqb (subject e) old.id ≡ false = grind (arith, nat_tests) in
          subst (KeepsTrace are start (entries ++ e ∷ [])) made
          (keeps_trace_of_others are start entries e old ne (was.traces id old from.1))
    ]

-- one promised place is taken, and the trace is changed
pub stands-promised : {X : Type 0} (are : RootsAre X) (start : Start) (r : RegistryValue)
    (entries : List (EntryOf X)) (e : EntryOf X) (f : Trace → Trace) (t : Trace)
    → StandsFor are start r entries → kept_trace r.traces (subject e) ≡ Some t
    → IsPromised are start entries e f t
    → IsSoundRegistry (after_promised r (subject e) f)
    → StandsFor are start (after_promised r (subject e) f) (entries ++ e ∷ [])
stands-promised are start r entries e f t was kept is sound =
    let new = entries ++ e ∷ [] in
    let id = subject e in
    let n = length (opened_ids entries) in
    let ids : opened_ids new ≡ opened_ids entries = opened_more entries e ∙
    ap (λ o. opened_ids entries ++ option_to_list o) is.opens_none ∙ append-nil (opened_ids entries) in
    let within = open_within entries start.id n id was.ids (loading_open entries id is.loads) in
    let sums = promised_more entries e start.id n was.ids ids within.0 within.1 in
    record {
      sound = sound;
      place = omega (arith, was.place, length-append entries (e ∷ []));
      ids = ids ∙ was.ids ∙ ap (λ (xs : List ℕ). range_with_len start.id (length xs)) (sym ids);
      next_id = was.next_id ∙ ap (λ (xs : List ℕ). start.id + length xs) (sym ids);
      promised = omega (arith, was.promised, sums, is.promise);
      untold = λ other above.
          let below : t.id < r.next_id =
          All-found (λ (t : Trace). t.id < r.next_id) (has_id id) r.traces t was.sound.given kept in
          let ne : eqb id other ≡ false = grind (arith, nat_tests, is.about) in
          untold_stays entries e other ne (was.untold other above);
      opens = λ other. open_stays entries e other ids (is.ends_none other) ∙ was.opens other ∙ sym
          (open_changed id f r.traces other is.keeps_id is.keeps_open);
      traces = traces_promised are start r entries e f t was kept is;
    }
