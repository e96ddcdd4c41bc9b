-- Traces whose ids rise, and which of them is found by its id.
use Rattle.std.proofs.Common.{◌≡◌, ℕ, Bool, true, false, ◌&&◌, cond, eqb, List, [], ◌∷◌, map, All, get_or}
use Rattle.std.proofs.Common.{find, nat_cmp, Less, Equal, Option, None, Some, inl, inr, refl, sym, ap, ◌∙◌}
use Rattle.std.proofs.Common.{subst, arith, eq-eqb, eqb-true}
use Rattle.std.specs.List.{AllByRecursion}
use Rattle.std.specs.List.Sorted.{IsStrictlySortedBy}
use Rattle.std.specs.Cmp.{nat_cmp_is}
use Rattle.std.proofs.Math.Path.{fun_ext}
use Rattle.std.proofs.lemmas.Bool.{cases_Bool, cond_both, not-true}
use Rattle.std.proofs.lemmas.Bool.Decides.{eqb_tells, nat_tests}
use Rattle.std.proofs.lemmas.List.Elements.{All-cons, All-map, All-nil, All-weaker}
use Rattle.std.proofs.lemmas.Map.Entries.{option_filter}
use Rattle.std.proofs.lemmas.Map.Keys.{sorted_tail}
use Rattle.std.proofs.lemmas.Simd.{map-map}
use Rattle.list_lemmas.proofs.Found.{found_passes}
use Rattle.registry_core.specs.Registry.{has_id, is_open_trace, kept_trace, open_trace, with_changed}
use Rattle.registry_core.specs.Registry.{without_trace}
use Rattle.registry_core.specs.Trace.{Trace}
use Rattle.registry_core.proofs.FilteredLists.{all_of_keys}

-- ---- ids that rise

-- the ids of traces
abbrev pub ids_of : List Trace → List ℕ
ids_of traces = map (λ (t : Trace). t.id) traces

-- the ids rise
abbrev pub IsRising : List Trace → Type 0
IsRising traces = IsStrictlySortedBy nat_cmp (ids_of traces)

-- a change that keeps the ids keeps them rising
pub IsRising-map : (g : Trace → Trace) (traces : List Trace) → ((t : Trace) → (g t).id ≡ t.id)
    → IsRising traces → IsRising (map g traces)
IsRising-map g traces same rising = subst (IsStrictlySortedBy nat_cmp) (sym ids) rising
  where
    ids : ids_of (map g traces) ≡ ids_of traces
    ids = map-map (λ (t : Trace). t.id) g traces ∙ ap (λ (f : Trace → ℕ). map f traces) (fun_ext same)

-- ---- the trace of an id

-- the trace that is kept under an id has it
pub kept_id : (traces : List Trace) (id : ℕ) (t : Trace) → kept_trace traces id ≡ Some t → t.id ≡ id
kept_id traces id t kept = eqb-true t.id id (found_passes (has_id id) traces t kept)

-- so it is kept under its own id
pub kept_own : (traces : List Trace) (id : ℕ) (t : Trace) → kept_trace traces id ≡ Some t
    → kept_trace traces t.id ≡ Some t
kept_own traces id t kept = ap (kept_trace traces) (kept_id traces id t kept) ∙ kept

-- among greater ids this one isn't
none_greater : (id : ℕ) (traces : List Trace)
    → AllByRecursion (λ other. nat_cmp id other ≡ Less) (ids_of traces)
    → kept_trace traces id ≡ None
none_greater id [] above = refl
none_greater id (t ∷ traces) above = elim (eqb_tells t.id id) [
  | inl same ↦
      let less : nat_cmp id id ≡ Less = ap (nat_cmp id) (sym same.1) ∙ above.0 in
      absurd (cc (less, nat_cmp_is id id Equal refl))
  | inr other ↦ ap (λ b. cond b (Some t) (kept_trace traces id)) other.0 ∙ none_greater id traces above.1
]

-- behind a trace there is none of its id
pub none_behind : (id : ℕ) (t : Trace) (traces : List Trace) → IsRising (t ∷ traces) → has_id id t ≡ true
    → kept_trace traces id ≡ None
unfolding IsStrictlySortedBy
none_behind id t traces rising hit =
    subst (λ n. kept_trace traces n ≡ None) (eqb-true t.id id hit) (none_greater t.id traces rising.0)

-- each trace is found by its id, where ids rise
pub kept_each : (traces : List Trace) → IsRising traces → All (λ t. kept_trace traces t.id ≡ Some t) traces
unfolding IsStrictlySortedBy
kept_each [] rising = All-nil (λ t. kept_trace [] t.id ≡ Some t)
kept_each (t ∷ traces) rising =
    let above : All (λ (u : Trace). nat_cmp t.id u.id ≡ Less) traces =
    all_of_keys (λ id. nat_cmp t.id id ≡ Less) (λ (u : Trace). u.id) traces rising.0 in
    All-cons (λ u. kept_trace (t ∷ traces) u.id ≡ Some u) t traces
    (ap (λ b. cond b (Some t) (kept_trace traces t.id)) (eq-eqb t.id t.id refl))
    (λ k d lt. let u = get_or traces k d in
    let less : nat_cmp t.id u.id ≡ Less = above k d lt in
    let other : eqb t.id u.id ≡ false = grind (arith, nat_tests) in
    ap (λ b. cond b (Some t) (kept_trace traces u.id)) other ∙ kept_each traces rising.1 k d lt)

-- ---- the trace of an id that passes a test

-- it is the one of that id, if that passes
pub find-has_id : (p : Trace → Bool) (id : ℕ) (traces : List Trace) → IsRising traces
    → find (λ t. has_id id t && p t) traces ≡ option_filter p (kept_trace traces id)
find-has_id p id [] rising = refl
find-has_id p id (t ∷ traces) rising = elim (cases_Bool (eqb t.id id)) [
  | inl hit ↦
      let none = none_behind id t traces rising hit in
      let behind = find-has_id p id traces (sorted_tail nat_cmp t.id (ids_of traces) rising)
      ∙ ap (option_filter p) none in
      rw hit (ap (λ o. cond (p t) (Some t) o) behind)
  | inr miss ↦ rw miss (find-has_id p id traces (sorted_tail nat_cmp t.id (ids_of traces) rising))
]

-- so where one is found it is kept under the id
pub kept_too : (q : Trace → Bool) (traces : List Trace) (id : ℕ) (t : Trace) → IsRising traces
    → find (λ u. has_id id u && q u) traces ≡ Some t → kept_trace traces id ≡ Some t
kept_too q traces id t rising found =
    passed (kept_trace traces id) (sym (find-has_id q id traces rising) ∙ found)
  where
    passed : (o : Option Trace) → option_filter q o ≡ Some t → o ≡ Some t
    passed None is = absurd cc
    passed (Some u) is = elim (q u) as (λ b. cond b (Some u) None ≡ Some t → Some u ≡ Some t)
        [ true ↦ λ same. same | false ↦ λ none. absurd cc ] is

-- whether it is the open trace of an id
abbrev pub is_open_as : ℕ → Trace → Bool
is_open_as id t = has_id id t && is_open_trace t

-- an open trace is kept, and hasn't ended
pub open_kept : (traces : List Trace) (id : ℕ) (t : Trace) → IsRising traces → open_trace traces id ≡ Some t
    → (kept_trace traces id ≡ Some t) × (t.closing ≡ false)
open_kept traces id t rising opened =
    let kept = kept_too is_open_trace traces id t rising opened in
    let this : has_id id t ≡ true = found_passes (has_id id) traces t kept in (
      kept,
      not-true t.closing (sym (ap (λ b. b && is_open_trace t) this)
          ∙ found_passes (is_open_as id) traces t opened),
    )

-- ---- where there is no trace of an id

-- none is changed
pub with_changed-none : (id : ℕ) (f : Trace → Trace) (traces : List Trace) → kept_trace traces id ≡ None
    → with_changed id f traces ≡ traces
with_changed-none id f [] none = refl
with_changed-none id f (t ∷ traces) none = elim (cases_Bool (eqb t.id id)) [
  | inl hit ↦ let found = rw hit at none in absurd cc
  | inr miss ↦
      let later = rw miss at none in rw miss (ap (λ ts. t ∷ ts) (with_changed-none id f traces later))
]

-- none is taken out
pub without_trace-none : (id : ℕ) (traces : List Trace) → kept_trace traces id ≡ None
    → without_trace id traces ≡ traces
without_trace-none id [] none = refl
without_trace-none id (t ∷ traces) none = elim (cases_Bool (eqb t.id id)) [
  | inl hit ↦ let found = rw hit at none in absurd cc
  | inr miss ↦
      let later = rw miss at none in rw miss (ap (λ ts. t ∷ ts) (without_trace-none id traces later))
]

-- ---- where the trace of an id is changed

-- what holds of each trace, with the one of an id changed
pub All-with_changed : (P Q : Trace → Type 0) (id : ℕ) (f : Trace → Trace)
    → ((t : Trace) → P t → eqb t.id id ≡ true → Q (f t)) → ((t : Trace) → P t → eqb t.id id ≡ false → Q t)
    → (traces : List Trace) → All P traces → All Q (with_changed id f traces)
All-with_changed P Q id f changed others traces all =
    All-map Q (λ t. cond (eqb t.id id) (f t) t) traces (All-weaker P (λ t. Q (cond (eqb t.id id) (f t) t))
    (λ t p. cond_both (eqb t.id id) (f t) t Q (changed t p) (others t p)) traces all)
