-- The open traces of a registry and the open ids of its history are one list, and so are their rows.
use Rattle.std.proofs.Common.{◌≡◌, ℕ, Bool, true, false, ◌&&◌, inl, inr, not, cond, eqb, List}
use Rattle.std.proofs.Common.{[], ◌∷◌, length, map, filter, All, Contains, Some, refl, sym, ap}
use Rattle.std.proofs.Common.{◌∙◌, subst, arith, get_or}
use Rattle.std.specs.Prelude.{is_some}
use Rattle.std.specs.List.{range_with_len}
use Rattle.std.specs.List.Sorted.{IsStrictlySortedBy}
use Rattle.std.specs.Ordering.{nat_cmp}
use Rattle.std.proofs.lemmas.Bool.{and_parts, eq-eqb, eqb-true, true≢false}
use Rattle.std.proofs.lemmas.Cmp.{nat_cmp_total}
use Rattle.std.proofs.lemmas.List.{length-map}
use Rattle.std.proofs.lemmas.List.Elements.{All-contains, All-filter, filter_passes}
use Rattle.std.proofs.lemmas.List.Sums.{length-filter}
use Rattle.std.proofs.lemmas.List.Kept.{IsStrictlySortedBy-filter}
use Rattle.std.proofs.lemmas.Map.Views.{Contains-from_any}
use Rattle.list_lemmas.proofs.InOrder.{rising-unique}
use Rattle.list_lemmas.proofs.Maps.{map_told}
use Rattle.list_lemmas.proofs.Members.{filter-keeps, has_cons, has_here, has_there}
use Rattle.list_lemmas.proofs.Ranges.{range_rises}
use Rattle.hall_history.specs.History.{EntryOf, is_open, open_ids, opened_ids, tracks_of}
use Rattle.hall_history.specs.Listing.{listed_rows, row_told}
use Rattle.registry_core.specs.Closing.{rows_of}
use Rattle.registry_core.specs.Registry.{RegistryValue, is_open_trace, open_count, open_trace}
use Rattle.registry_core.specs.Standing.{KeepsTrace, RootsAre, StandsFor, Start}
use Rattle.registry_core.specs.Trace.{IsSoundTrace, Trace, list_row}
use Rattle.registry_core.proofs.FilteredLists.{rising-filter}
use Rattle.registry_core.proofs.KeepsMore.{tracks_told}
use Rattle.registry_core.proofs.KeptTraces.{ids_of, kept_each}

-- ---- the open ids

-- an id that is open is among the open ids
open_id_has : {X : Type 0} (entries : List (EntryOf X)) (id : ℕ) → is_open entries id ≡ true
    → Contains (open_ids entries) id
unfolding open_ids is_open
open_id_has entries id on = filter-keeps (is_open entries) (opened_ids entries) id
    (Contains-from_any {eq = λ x y. eqb y x} (λ x y is. sym (eqb-true y x is)) id (opened_ids entries)
    (and_parts _ _ on).0) on

-- an id among the open ids is open
open_id_is : {X : Type 0} (entries : List (EntryOf X)) (id : ℕ) → Contains (open_ids entries) id
    → is_open entries id ≡ true
unfolding open_ids
open_id_is entries id has = All-contains (λ x. is_open entries x ≡ true) _ id
    (filter_passes (is_open entries) (opened_ids entries)) has

-- the open ids rise, where ids are given in order
open_ids_rise : {X : Type 0} (start : ℕ) (entries : List (EntryOf X))
    → opened_ids entries ≡ range_with_len start (length (opened_ids entries))
    → IsStrictlySortedBy nat_cmp (open_ids entries)
unfolding open_ids
open_ids_rise start entries ids = IsStrictlySortedBy-filter nat_cmp (is_open entries) (opened_ids entries)
    (subst (IsStrictlySortedBy nat_cmp) (sym ids) (range_rises start (length (opened_ids entries))))

-- ---- the ids of the open traces

-- an id that finds an open trace is among the ids of the open traces
open_trace_has : (traces : List Trace) (id : ℕ) → is_some (open_trace traces id) ≡ true
    → Contains (ids_of (filter is_open_trace traces)) id
open_trace_has [] id is = absurd cc
open_trace_has (t ∷ traces) id is = by (eqb t.id id) (not t.closing) refl is (open_trace_has traces id)
  where
    rest : List Trace
    rest = filter is_open_trace traces

    by : (same on : Bool) → eqb t.id id ≡ same
        → is_some (cond (same && on) (Some t) (open_trace traces id)) ≡ true
        → (is_some (open_trace traces id) ≡ true → Contains (ids_of rest) id)
        → Contains (ids_of (cond on (t ∷ rest) rest)) id
    by true true same is later = subst (λ (x : ℕ). Contains (t.id ∷ ids_of rest) x) (eqb-true t.id id same)
        (has_here t.id (ids_of rest))
    by true false same is later = later is
    by false true same is later = has_there t.id id (ids_of rest) (later is)
    by false false same is later = later is

-- an id among the ids of the open traces finds one
open_trace_is : (traces : List Trace) (id : ℕ) → Contains (ids_of (filter is_open_trace traces)) id
    → is_some (open_trace traces id) ≡ true
open_trace_is [] id has = absurd (omega (arith, has.1))
open_trace_is (t ∷ traces) id has = by (eqb t.id id) (not t.closing) refl has (open_trace_is traces id)
  where
    rest : List Trace
    rest = filter is_open_trace traces

    by : (same on : Bool) → eqb t.id id ≡ same → Contains (ids_of (cond on (t ∷ rest) rest)) id
        → (Contains (ids_of rest) id → is_some (open_trace traces id) ≡ true)
        → is_some (cond (same && on) (Some t) (open_trace traces id)) ≡ true
    by true true same has later = refl
    by true false same has later = later has
    by false true same has later = elim (has_cons t.id id (ids_of rest) has) [
      | inl here ↦ absurd (true≢false (sym (eq-eqb t.id id here) ∙ same))
      | inr there ↦ later there
    ]
    by false false same has later = later has

-- ---- a registry that stands for its history

-- the open traces have the ids that are open
pub open_ids_are : {X : Type 0} (are : RootsAre X) (start : Start) (r : RegistryValue)
    (entries : List (EntryOf X)) → StandsFor are start r entries
    → ids_of (filter is_open_trace r.traces) ≡ open_ids entries
open_ids_are are start r entries stands = rising-unique nat_cmp nat_cmp_total _ _
    (rising-filter (λ (t : Trace). t.id) is_open_trace r.traces stands.sound.rising)
    (open_ids_rise start.id entries stands.ids)
    (λ id has. open_id_has entries id (stands.opens id ∙ open_trace_is r.traces id has))
    (λ id has. open_trace_has r.traces id (sym (stands.opens id) ∙ open_id_is entries id has))

-- there are as many open traces as open ids
pub open_count_told : {X : Type 0} (are : RootsAre X) (start : Start) (r : RegistryValue)
    (entries : List (EntryOf X)) → StandsFor are start r entries
    → open_count r.traces ≡ length (open_ids entries)
open_count_told are start r entries stands =
    sym (length-filter is_open_trace r.traces)
    ∙ sym (length-map (filter is_open_trace r.traces) (λ (t : Trace). t.id))
    ∙ ap length (open_ids_are are start r entries stands)

-- the row of a trace is told
row_is : {X : Type 0} (are : RootsAre X) (start : Start) (place : ℕ) (entries : List (EntryOf X)) (t : Trace)
    → KeepsTrace are start entries t → IsSoundTrace place t → list_row t ≡ row_told entries t.id
row_is are start place entries t keeps sound =
    let tracks : length t.tracks ≡ tracks_of entries t.id = sound.tracks
    ∙ sym (tracks_told entries t.id t.info keeps.info) in
    λ i. record { id = t.id; tracks = tracks i; published = keeps.count i; loading = keeps.loading i }

-- the rows of the registry are those that its history tells
pub rows_told : {X : Type 0} (are : RootsAre X) (start : Start) (r : RegistryValue)
    (entries : List (EntryOf X)) → StandsFor are start r entries
    → rows_of r ≡ listed_rows entries
rows_told are start r entries stands =
    let each : All (λ t. list_row t ≡ row_told entries t.id) r.traces = λ k d lt.
    let t = get_or r.traces k d in
    row_is are start r.place entries t
    (stands.traces t.id t (kept_each r.traces stands.sound.rising k d lt)) (stands.sound.each k d lt) in
    map_told (λ (t : Trace). t.id) list_row (row_told entries) (filter is_open_trace r.traces)
    (All-filter is_open_trace (λ t. list_row t ≡ row_told entries t.id) r.traces each)
    ∙ ap (map (row_told entries)) (open_ids_are are start r entries stands)
