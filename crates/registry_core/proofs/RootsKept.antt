-- The roots of the traces that are kept, where these change.
use Rattle.std.proofs.Common.{append-nil, ◌≡◌, ℕ, ◌+◌, true, false, ◌&&◌, not, cond, eqb, suc, zero, List, [], ◌∷◌}
use Rattle.std.proofs.Common.{◌++◌, map, filter, Option, None, Some, inl, inr, refl, sym, ap, ap₂, ◌∙◌, arith}
use Rattle.std.proofs.Common.{find, option_map, sum_by}
use Rattle.std.specs.Prelude.{length, replicate, slice_get, slice_set, unwrap_or}
use Rattle.std.proofs.lemmas.Bool.{and_parts, cases_Bool}
use Rattle.std.proofs.lemmas.List.Concat.{flat_map-append}
use Rattle.std.proofs.lemmas.List.Sums.{sum_by-append, sum_by-cons}
use Rattle.std.proofs.lemmas.Map.Keys.{sorted_tail}
use Rattle.registry_core.specs.declared.track_root.TrackRoot.{TrackRoot}
use Rattle.registry_core.specs.Registry.{RegistryValue, has_id, kept_trace, with_changed, without_trace}
use Rattle.registry_core.specs.Roots.{ExchangesRoots, roots_kept, times_root}
use Rattle.registry_core.specs.Trace.{Trace, is_over, just_opened, roots_in, with_root}
use Rattle.registry_core.specs.Loading.{with_opened}
use Rattle.trace_base.specs.declared.names.TraceInfo.{TraceInfo}
use Rattle.registry_core.proofs.KeptTraces.{IsRising, ids_of, none_behind}
use Rattle.registry_core.proofs.OneTrace.{sum-changed, sum-without}

-- ---- how often a root stands among those that are kept

pub times_root-append : (n : ℕ) (xs ys : List ℕ) → times_root n (xs ++ ys) ≡ times_root n xs + times_root n ys
times_root-append n xs ys = sum_by-append (λ root. cond (eqb root n) 1 0) xs ys

-- how often among the roots of a trace
abbrev pub times_in : ℕ → Trace → ℕ
times_in n t = times_root n (roots_in t.tracks)

pub times_kept : (n : ℕ) (traces : List Trace)
    → times_root n (roots_kept traces) ≡ sum_by (times_in n) traces
times_kept n [] = refl
times_kept n (t ∷ traces) = times_root-append n (roots_in t.tracks) (roots_kept traces)
    ∙ ap (λ k. times_in n t + k) (times_kept n traces) ∙ sym (sum_by-cons (times_in n) t traces)

-- ---- changes that leave the tracks

pub roots-same : (f : Trace → Trace) → ((t : Trace) → (f t).tracks ≡ t.tracks) → (traces : List Trace)
    → roots_kept (map f traces) ≡ roots_kept traces
roots-same f same [] = refl
roots-same f same (t ∷ traces) = ap₂ (λ slots roots. roots_in slots ++ roots) (same t)
    (roots-same f same traces)

pub roots-changed : (id : ℕ) (f : Trace → Trace) → ((t : Trace) → (f t).tracks ≡ t.tracks)
    → (traces : List Trace) → roots_kept (with_changed id f traces) ≡ roots_kept traces
roots-changed id f same traces = roots-same (λ t. cond (has_id id t) (f t) t)
    (λ t. elim (has_id id t) as (λ b. (cond b (f t) t).tracks ≡ t.tracks)
    [ true ↦ same t | false ↦ refl ]) traces

-- ---- one trace more

-- slots that are free have no roots
no_roots : (n : ℕ) → roots_in (replicate n None) ≡ []
no_roots zero = refl
no_roots (suc n) = no_roots n

-- a trace that was just opened adds none
pub roots-opened : (r : RegistryValue) (info : TraceInfo)
    → roots_kept (with_opened r info).traces ≡ roots_kept r.traces
roots-opened r info =
    flat_map-append (λ (t : Trace). roots_in t.tracks) r.traces (just_opened r.next_id info ∷ [])
    ∙ ap (λ roots. roots_kept r.traces ++ (roots ++ [])) (no_roots (length info.names.tracks))
    ∙ append-nil (roots_kept r.traces)

-- ---- one root more

-- a slot that was free has a root
roots-filled : (n : ℕ) (slots : List (Option TrackRoot)) (track : ℕ) (r : TrackRoot)
    → slice_get slots track ≡ Some None
    → times_root n (roots_in (slice_set slots track (Some r))) ≡ times_root n (roots_in slots)
    + times_root n (r.root ∷ [])
roots-filled n [] track r free = absurd cc
roots-filled n (None ∷ slots) zero r free = times_root-append n (r.root ∷ []) (roots_in slots) ∙ omega arith
roots-filled n (Some q ∷ slots) zero r free = absurd cc
roots-filled n (None ∷ slots) (suc track) r free = roots-filled n slots track r free
roots-filled n (Some q ∷ slots) (suc track) r free = omega (
  arith,
  roots-filled n slots track r free,
  times_root-append n (q.root ∷ []) (roots_in (slice_set slots track (Some r))),
  times_root-append n (q.root ∷ []) (roots_in slots),
)

pub roots-published : (traces : List Trace) (id track : ℕ) (t : Trace) (r : TrackRoot) → IsRising traces
    → kept_trace traces id ≡ Some t → slice_get t.tracks track ≡ Some None
    → ExchangesRoots (roots_kept traces) (roots_kept (with_changed id (with_root track r) traces)) []
    (r.root ∷ [])
roots-published traces id track t r up kept free n = omega (
  arith,
  sum-changed (times_in n) (with_root track r) traces id t up kept,
  roots-filled n t.tracks track r free,
  times_kept n traces,
  times_kept n (with_changed id (with_root track r) traces),
)

-- ---- the roots of a trace that is gone

pub roots-without : (traces : List Trace) (id : ℕ) (t : Trace) → IsRising traces
    → kept_trace traces id ≡ Some t
    → ExchangesRoots (roots_kept traces) (roots_kept (without_trace id traces)) (roots_in t.tracks) []
roots-without traces id t up kept n = omega (
  arith,
  sum-without (times_in n) traces id t up kept,
  times_kept n traces,
  times_kept n (without_trace id traces),
)

-- ---- the roots of the trace of an id, if it is over

-- the roots that come free
abbrev pub freed_of : ℕ → List Trace → Option (List ℕ)
freed_of id traces = option_map (λ (t : Trace). roots_in t.tracks)
    (find (λ t. has_id id t && is_over t) traces)

-- the traces that are left
abbrev pub rest_of : ℕ → List Trace → List Trace
rest_of id traces = filter (λ t. not (has_id id t && is_over t)) traces

-- where there is no trace of the id all are left
rest-none : (id : ℕ) (traces : List Trace) → kept_trace traces id ≡ None → rest_of id traces ≡ traces
rest-none id [] none = refl
rest-none id (t ∷ traces) none = elim (cases_Bool (eqb t.id id)) [
  | inl hit ↦ let found = rw hit at none in absurd cc
  | inr miss ↦ let later = rw miss at none in rw miss (ap (λ ts. t ∷ ts) (rest-none id traces later))
]

pub roots-over : (id : ℕ) (traces : List Trace) → IsRising traces
    → ExchangesRoots (roots_kept traces) (roots_kept (rest_of id traces)) (unwrap_or (freed_of id traces) []) []
roots-over id [] up n = refl
roots-over id (t ∷ traces) up n =
    let more = times_root-append n (roots_in t.tracks) (roots_kept traces) in
    let later = roots-over id traces (sorted_tail _ t.id (ids_of traces) up) n in
    elim (cases_Bool (has_id id t && is_over t)) [
      | inl over ↦
          let hit : has_id id t ≡ true = (and_parts (has_id id t) (is_over t) over).0 in
          let left : rest_of id (t ∷ traces) ≡ traces =
          ap (λ b. cond (not b) (t ∷ rest_of id traces) (rest_of id traces)) over
          ∙ rest-none id traces (none_behind id t traces up hit) in
          let freed : unwrap_or (freed_of id (t ∷ traces)) [] ≡ roots_in t.tracks =
          ap (λ b. unwrap_or (option_map (λ (u : Trace). roots_in u.tracks) (cond b (Some t)
          (find (λ u. has_id id u && is_over u) traces))) []) over in
          omega (
            arith,
            more,
            ap (λ ts. times_root n (roots_kept ts)) left,
            ap (times_root n) freed,
          )
      | inr on ↦
          let left : rest_of id (t ∷ traces) ≡ t ∷ rest_of id traces =
          ap (λ b. cond (not b) (t ∷ rest_of id traces) (rest_of id traces)) on in
          let freed : unwrap_or (freed_of id (t ∷ traces)) [] ≡ unwrap_or (freed_of id traces) [] =
          ap (λ b. unwrap_or (option_map (λ (u : Trace). roots_in u.tracks) (cond b (Some t)
          (find (λ u. has_id id u && is_over u) traces))) []) on in
          omega (
            arith,
            more,
            later,
            ap (λ ts. times_root n (roots_kept ts)) left,
            ap (times_root n) freed,
            times_root-append n (roots_in t.tracks) (roots_kept (rest_of id traces)),
          )
    ]
