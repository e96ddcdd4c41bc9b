-- Traces that a map keeps by their ids.
use Rattle.std.proofs.Common.{◌≡◌, ℕ, ◌<◌, Bool, true, false, not, ◌&&◌, cond, eqb, List, [], ◌∷◌, ◌++◌}
use Rattle.std.proofs.Common.{map, filter, None, Some, refl, ap, ap₂, ◌∙◌, sym, subst, nat_cmp}
use Rattle.std.proofs.Common.{inl, inr}
use Rattle.std.specs.BTreeMap.{BTreeMap, WritesThrough, get, insert_entry, is_at}
use Rattle.std.specs.List.{All, find}
use Rattle.std.specs.List.Sorted.{IsStrictlySortedBy}
use Rattle.std.specs.Map.{keys_of, values_of, lookup, remove_entry, set_value}
use Rattle.std.specs.Cmp.{nat_cmp_is}
use Rattle.std.specs.declared.cmp.Ordering.TheVariants.{Greater}
use Rattle.std.proofs.lemmas.Bool.{cases_Bool, cond-false, cond-true}
use Rattle.std.proofs.lemmas.List.Elements.{All-head, All-tail}
use Rattle.std.proofs.lemmas.Map.Entries.{option_filter}
use Rattle.std.proofs.lemmas.Map.Keys.{sorted_tail}
use Rattle.list_lemmas.proofs.Numbers.{is_eq-nat_cmp}
use Rattle.registry_core.specs.Registry.{has_id, kept_trace, with_changed, without_trace}
use Rattle.registry_core.specs.Trace.{Trace}
use Rattle.registry_core.proofs.KeptTraces.{IsRising, find-has_id, ids_of, none_behind, with_changed-none}
use Rattle.registry_core.proofs.KeptTraces.{without_trace-none}
use Rattle.registry_core.proofs.LawTraces.{KeepsId}

-- ---- a list of traces as entries

-- a trace as an entry, under its id
abbrev pub entry_of : Trace → ℕ × Trace
entry_of t = (t.id, t)

-- these entries are of these traces, whose ids rise
pub record AreKept (es : List (ℕ × Trace)) (traces : List Trace) : Type 0 where
  pub rising : IsStrictlySortedBy nat_cmp (keys_of es)
  pub entries : es ≡ map entry_of traces

-- the keys of traces as entries are their ids
keys_of_traces : (traces : List Trace) → keys_of (map entry_of traces) ≡ ids_of traces
keys_of_traces [] = refl
keys_of_traces (t ∷ traces) = ap (λ ids. t.id ∷ ids) (keys_of_traces traces)

-- their values are the traces
values_of_traces : (traces : List Trace) → values_of (map entry_of traces) ≡ traces
values_of_traces [] = refl
values_of_traces (t ∷ traces) = ap (λ ts. t ∷ ts) (values_of_traces traces)

-- entries under the ids of their values are those of the values
entries_of_values : (es : List (ℕ × Trace)) → keys_of es ≡ ids_of (values_of es)
    → es ≡ map entry_of (values_of es)
entries_of_values [] keyed = refl
entries_of_values (e ∷ es) keyed =
    let head : e.0 ≡ e.1.id = cc in
    let tail : keys_of es ≡ ids_of (values_of es) = cc in
    ap₂ (λ k rest. (k, e.1) ∷ rest) head (entries_of_values es tail)

-- a map keyed by the ids of its values keeps them
pub AreKept-from : (es : List (ℕ × Trace)) (traces : List Trace) → IsStrictlySortedBy nat_cmp (keys_of es)
    → keys_of es ≡ ids_of (values_of es) → values_of es ≡ traces → AreKept es traces
AreKept-from es traces rising keyed are = record {
  rising = rising;
  entries = entries_of_values es keyed ∙ ap (map entry_of) are;
}

-- its values are the traces
pub values_kept : {es : List (ℕ × Trace)} {traces : List Trace} → AreKept es traces → values_of es ≡ traces
values_kept {es} {traces} k = ap values_of k.entries ∙ values_of_traces traces

-- its keys are the ids of its values
pub keys_kept : {es : List (ℕ × Trace)} {traces : List Trace} → AreKept es traces
    → keys_of es ≡ ids_of (values_of es)
keys_kept {es} {traces} k = ap keys_of k.entries ∙ keys_of_traces traces ∙ ap ids_of (sym (values_kept k))

-- the ids of what it keeps rise
pub ids_rise : {es : List (ℕ × Trace)} {traces : List Trace} → AreKept es traces → IsRising traces
ids_rise {es} {traces} k =
    subst (IsStrictlySortedBy nat_cmp) (ap keys_of k.entries ∙ keys_of_traces traces) k.rising

-- ---- finding

-- among traces as entries a look-up finds the first of the id
lookup_of_traces : (id : ℕ) (traces : List Trace)
    → lookup (is_at (nat_cmp id)) (map entry_of traces) ≡ kept_trace traces id
lookup_of_traces id [] = refl
lookup_of_traces id (t ∷ traces) =
    ap₂ (λ b rest. cond b (Some t) rest) (is_eq-nat_cmp id t.id) (lookup_of_traces id traces)

-- the map finds the trace of an id
pub lookup_kept : {es : List (ℕ × Trace)} {traces : List Trace} (id : ℕ) → AreKept es traces
    → lookup (is_at (nat_cmp id)) es ≡ kept_trace traces id
lookup_kept {es} {traces} id k = ap (lookup (is_at (nat_cmp id))) k.entries ∙ lookup_of_traces id traces

-- ---- changing the trace of an id

-- among traces as entries, whose ids rise, what is written is changed
set_in_traces : (id : ℕ) (f : Trace → Trace) → KeepsId f → (traces : List Trace) (t : Trace)
    → IsRising traces → kept_trace traces id ≡ Some t
    → set_value (is_at (nat_cmp id)) (map entry_of traces) (f t) ≡ map entry_of (with_changed id f traces)
set_in_traces id f stays [] t rising found = absurd cc
set_in_traces id f stays (x ∷ traces) t rising found = elim (cases_Bool (eqb x.id id)) [
  | inl hit ↦
      let here = rw hit at found in
      let same : x ≡ t = cc in
      let behind = with_changed-none id f traces (none_behind id x traces rising hit) in
      rw (is_eq-nat_cmp, hit) (ap₂ (λ (e : ℕ × Trace) ts. e ∷ map entry_of ts)
      (ap₂ (λ n v. (n, v)) (sym (stays x)) (ap f (sym same))) (sym behind))
  | inr miss ↦
      let later = rw miss at found in
      rw (is_eq-nat_cmp, miss) (ap (λ es. entry_of x ∷ es) (set_in_traces id f stays traces t
      (sorted_tail nat_cmp x.id (ids_of traces) rising) later))
]

-- a map whose trace of an id was written keeps the changed traces
pub changed_kept : {es : List (ℕ × Trace)} {traces : List Trace} (id : ℕ) (f : Trace → Trace)
    → KeepsId f → (t w : Trace) (new : List (ℕ × Trace))
    → AreKept es traces → lookup (is_at (nat_cmp id)) es ≡ Some t → w ≡ f t
    → new ≡ set_value (is_at (nat_cmp id)) es w → IsStrictlySortedBy nat_cmp (keys_of new)
    → AreKept new (with_changed id f traces)
changed_kept {es} {traces} id f stays t w new k found is wrote rising = record {
  rising = rising;
  entries = wrote ∙ ap₂ (λ before v. set_value (is_at (nat_cmp id)) before v) k.entries is
      ∙ set_in_traces id f stays traces t (ids_rise k) (sym (lookup_kept id k) ∙ found);
}

-- ---- taking a trace out

-- among traces as entries, whose ids rise, what is taken out is the one trace of the id
remove_in_traces : (id : ℕ) (traces : List Trace) → IsRising traces
    → remove_entry (is_at (nat_cmp id)) (map entry_of traces) ≡ map entry_of (without_trace id traces)
remove_in_traces id [] rising = refl
remove_in_traces id (t ∷ traces) rising = elim (cases_Bool (eqb t.id id)) [
  | inl hit ↦ rw (is_eq-nat_cmp, hit)
      (ap (map entry_of) (sym (without_trace-none id traces (none_behind id t traces rising hit))))
  | inr miss ↦ rw (is_eq-nat_cmp, miss) (ap (λ es. entry_of t ∷ es)
      (remove_in_traces id traces (sorted_tail nat_cmp t.id (ids_of traces) rising)))
]

-- a map that an id was taken out of keeps the others
pub removed_kept : {es : List (ℕ × Trace)} {traces : List Trace} (id : ℕ) (new : List (ℕ × Trace))
    → AreKept es traces → new ≡ remove_entry (is_at (nat_cmp id)) es
    → IsStrictlySortedBy nat_cmp (keys_of new) → AreKept new (without_trace id traces)
removed_kept {es} {traces} id new k took rising = record {
  rising = rising;
  entries = took ∙ ap (remove_entry (is_at (nat_cmp id))) k.entries ∙ remove_in_traces id traces (ids_rise k);
}

-- ---- one trace more

-- among traces as entries a greater id goes last
insert_in_traces : (t : Trace) (traces : List Trace) → All (λ (other : Trace). other.id < t.id) traces
    → insert_entry nat_cmp (map entry_of traces) t.id t ≡ map entry_of (traces ++ t ∷ [])
insert_in_traces t [] below = refl
insert_in_traces t (x ∷ traces) below =
    let P = λ (other : Trace). other.id < t.id in
    let below_it = All-head P x traces below in
    let behind : nat_cmp t.id x.id ≡ Greater = sym (nat_cmp_is t.id x.id Greater below_it) in
    rw behind (ap (λ es. entry_of x ∷ es) (insert_in_traces t traces (All-tail P x traces below)))

-- a map with a trace more, whose id is greater than the others, keeps it behind them
pub added_kept : {es : List (ℕ × Trace)} {traces : List Trace} (t : Trace) (new : List (ℕ × Trace))
    → AreKept es traces → All (λ (other : Trace). other.id < t.id) traces
    → new ≡ insert_entry nat_cmp es t.id t → IsStrictlySortedBy nat_cmp (keys_of new)
    → AreKept new (traces ++ t ∷ [])
added_kept {es} {traces} t new k below put rising = record {
  rising = rising;
  entries = put ∙ ap (λ before. insert_entry nat_cmp before t.id t) k.entries
      ∙ insert_in_traces t traces below;
}

-- ---- what is written through a borrow

-- the map after the trace of an id was lent and changed
pub written_kept : {traces : List Trace} (id : ℕ) (f : Trace → Trace) → KeepsId f
    → (t w : Trace) (old new : BTreeMap ℕ Trace) (es : List (ℕ × Trace)) → AreKept old.entries traces
    → Some t ≡ get nat_cmp old id → w ≡ f t → WritesThrough nat_cmp (nat_cmp id) old w new
    → es ≡ new.entries → AreKept es (with_changed id f traces)
written_kept {traces} id f stays t w old new es k found is wrote same =
    subst (λ now. AreKept now (with_changed id f traces)) (sym same)
    (changed_kept id f stays t w new.entries k (sym found) is wrote.0 wrote.4)

-- the map after no trace was lent
pub unwritten_kept : {traces : List Trace} (id : ℕ) (f : Trace → Trace) (old new : BTreeMap ℕ Trace)
    (es : List (ℕ × Trace)) → AreKept old.entries traces → None ≡ get nat_cmp old id → new ≡ old
    → es ≡ new.entries → AreKept es (with_changed id f traces)
unwritten_kept {traces} id f old new es k none unchanged same =
    let stays = with_changed-none id f traces (sym (lookup_kept id k) ∙ sym none) in
    let now : es ≡ old.entries = same ∙ ap (λ (m : BTreeMap ℕ Trace). m.entries) unchanged in
    subst (λ ts. AreKept es ts) (sym stays) (subst (λ now. AreKept now traces) (sym now) k)

-- what is lent is the trace of the id
pub lent_kept : {es : List (ℕ × Trace)} {traces : List Trace} (id : ℕ) (t : Trace) → AreKept es traces
    → Some t ≡ lookup (is_at (nat_cmp id)) es → kept_trace traces id ≡ Some t
lent_kept id t k lent = sym (lookup_kept id k) ∙ sym lent

-- ---- a trace that passes a test

-- where it doesn't pass all stay
pub filter-not_has_id-none : (p : Trace → Bool) (id : ℕ) (traces : List Trace)
    → find (λ t. has_id id t && p t) traces ≡ None → filter (λ t. not (has_id id t && p t)) traces ≡ traces
filter-not_has_id-none p id [] none = refl
filter-not_has_id-none p id (t ∷ traces) none = elim (cases_Bool (has_id id t && p t)) [
  | inl hit ↦ let found = rw hit at none in absurd cc
  | inr miss ↦
      let later = rw miss at none in
      rw miss (ap (λ ts. t ∷ ts) (filter-not_has_id-none p id traces later))
]

-- where it does it alone is taken out
pub filter-not_has_id : (p : Trace → Bool) (id : ℕ) (traces : List Trace) (t : Trace)
    → IsRising traces → kept_trace traces id ≡ Some t → p t ≡ true
    → filter (λ t. not (has_id id t && p t)) traces ≡ without_trace id traces
filter-not_has_id p id [] t rising found passes = refl
filter-not_has_id p id (x ∷ traces) t rising found passes = elim (cases_Bool (eqb x.id id)) [
  | inl hit ↦
      let none = none_behind id x traces rising hit in
      let here = rw hit at found in
      let same : x ≡ t = cc in
      let stays = filter-not_has_id-none p id traces (find-has_id p id traces
      (sorted_tail nat_cmp x.id (ids_of traces) rising) ∙ ap (option_filter p) none) in
      let passed : p x ≡ true = ap p same ∙ passes in
      rw (hit, passed) (stays ∙ sym (without_trace-none id traces none))
  | inr miss ↦
      let later = rw miss at found in
      rw miss (ap (λ ts. x ∷ ts) (filter-not_has_id p id traces t
      (sorted_tail nat_cmp x.id (ids_of traces) rising) later passes))
]

-- where the one of the id doesn't pass none is found
pub find-has_id-not : (p : Trace → Bool) (id : ℕ) (traces : List Trace) (t : Trace)
    → IsRising traces → kept_trace traces id ≡ Some t → p t ≡ false
    → find (λ t. has_id id t && p t) traces ≡ None
find-has_id-not p id traces t rising found fails = find-has_id p id traces rising
    ∙ ap (option_filter p) found ∙ cond-false (p t) (Some t) None fails

-- where it does it is found
pub find-has_id-some : (p : Trace → Bool) (id : ℕ) (traces : List Trace) (t : Trace)
    → IsRising traces → kept_trace traces id ≡ Some t → p t ≡ true
    → find (λ t. has_id id t && p t) traces ≡ Some t
find-has_id-some p id traces t rising found passes = find-has_id p id traces rising
    ∙ ap (option_filter p) found ∙ cond-true (p t) (Some t) None passes
