-- Traces whose ids rise: at most one has an id, so what is changed or taken out there changes nothing else.
use Rattle.std.proofs.Common.{◌≡◌, ℕ, ◌+◌, ◌<◌, inl, inr, Bool, true, false, not, cond, List}
use Rattle.std.proofs.Common.{[], ◌∷◌, ◌++◌, All, Option, None, Some, sum_by, refl, sym, ap, ap₂}
use Rattle.std.proofs.Common.{◌∙◌, subst, arith}
use Rattle.std.specs.Prelude.{is_some}
use Rattle.std.specs.List.{AllByRecursion}
use Rattle.std.specs.List.Sorted.{IsStrictlySortedBy}
use Rattle.std.specs.Ordering.{nat_cmp}
use Rattle.std.specs.declared.cmp.Ordering.TheVariants.{Less}
use Rattle.std.proofs.lemmas.Bool.{eqb-true}
use Rattle.std.proofs.lemmas.Bool.Decides.{eqb_tells, nat_tests}
use Rattle.std.proofs.lemmas.List.{map-append}
use Rattle.std.proofs.lemmas.List.Elements.{All-head, All-tail, filter-append}
use Rattle.std.proofs.lemmas.List.Sums.{sum_by-append, sum_by-cons}
use Rattle.std.proofs.lemmas.Map.Entries.{option_filter}
use Rattle.std.proofs.lemmas.Map.Keys.{sorted_tail}
use Rattle.std.proofs.lemmas.Option.{same_Some}
use Rattle.list_lemmas.proofs.Found.{find_stricter}
use Rattle.registry_core.specs.Registry.{has_id, is_open_trace, kept_trace, open_count, open_trace}
use Rattle.registry_core.specs.Registry.{with_changed, without_trace}
use Rattle.registry_core.specs.Trace.{Trace}
use Rattle.registry_core.proofs.KeptTraces.{All-with_changed, IsRising, IsRising-map, find-has_id, ids_of}
use Rattle.registry_core.proofs.KeptTraces.{kept_each, none_behind, with_changed-none, without_trace-none}

-- the list around its one trace of the id
pub record AroundTrace (traces : List Trace) (id : ℕ) (t : Trace) : Type 0 where
  pub before : List Trace
  pub after : List Trace
  pub is : traces ≡ before ++ t ∷ after
  pub here : has_id id t ≡ true
  pub none_before : kept_trace before id ≡ None
  pub none_after : kept_trace after id ≡ None

-- a trace that is kept has the id, and no other trace of the list has it
pub around-kept : (traces : List Trace) (id : ℕ) (t : Trace) → IsRising traces → kept_trace traces id ≡ Some t
    → AroundTrace traces id t
around-kept [] id t up kept = absurd cc
around-kept (u ∷ us) id t up kept =
    elim (eqb_tells u.id id) [
      | inl same ↦
          let first : Some u ≡ Some t = sym (ap (λ b. cond b (Some u) (kept_trace us id)) same.0) ∙ kept in
          let is : u ≡ t = cc in
          record {
            before = [];
            after = us;
            is = ap (λ v. v ∷ us) is;
            here = subst (λ (v : Trace). has_id id v ≡ true) is same.0;
            none_before = refl;
            none_after = none_behind id u us up same.0;
          }
      | inr other ↦
          let later : kept_trace us id ≡ Some t = sym (ap (λ b. cond b (Some u) (kept_trace us id)) other.0)
          ∙ kept in
          let rest = around-kept us id t (sorted_tail nat_cmp u.id (ids_of us) up) later in
          record {
            before = u ∷ rest.before;
            after = rest.after;
            is = ap (λ vs. u ∷ vs) rest.is;
            here = rest.here;
            none_before = ap (λ b. cond b (Some u) (kept_trace rest.before id)) other.0 ∙ rest.none_before;
            none_after = rest.none_after;
          }
    ]

-- ---- the list with the trace changed, or without it

-- the change is made at the trace alone
pub changed-around : (traces : List Trace) (id : ℕ) (t : Trace) (f : Trace → Trace)
    → (a : AroundTrace traces id t) → with_changed id f traces ≡ a.before ++ f t ∷ a.after
changed-around traces id t f a = ap (with_changed id f) a.is
    ∙ map-append (λ u. cond (has_id id u) (f u) u) a.before (t ∷ a.after)
    ∙ ap₂ ◌++◌ (with_changed-none id f a.before a.none_before)
    (ap₂ (λ b us. cond b (f t) t ∷ us) a.here (with_changed-none id f a.after a.none_after))

-- the trace alone is taken out
pub without-around : (traces : List Trace) (id : ℕ) (t : Trace) (a : AroundTrace traces id t)
    → without_trace id traces ≡ a.before ++ a.after
without-around traces id t a = ap (without_trace id) a.is
    ∙ filter-append (λ u. not (has_id id u)) a.before (t ∷ a.after)
    ∙ ap₂ ◌++◌ (without_trace-none id a.before a.none_before)
    (ap₂ (λ b us. cond (not b) (t ∷ us) us) a.here (without_trace-none id a.after a.none_after))

-- a sum over the list, around the trace
sum-around : (g : Trace → ℕ) (before after : List Trace) (t : Trace)
    → sum_by g (before ++ t ∷ after) ≡ sum_by g before + g t + sum_by g after
sum-around g before after t = omega (arith, sum_by-append g before (t ∷ after), sum_by-cons g t after)

-- a sum changes by what the trace changes
pub sum-changed : (g : Trace → ℕ) (f : Trace → Trace) (traces : List Trace) (id : ℕ) (t : Trace)
    → IsRising traces → kept_trace traces id ≡ Some t
    → sum_by g (with_changed id f traces) + g t ≡ sum_by g traces + g (f t)
sum-changed g f traces id t up kept =
    let a = around-kept traces id t up kept in
    let old : sum_by g traces ≡ sum_by g a.before + g t + sum_by g a.after = ap (sum_by g) a.is
    ∙ sum-around g a.before a.after t in
    let new : sum_by g (with_changed id f traces) ≡ sum_by g a.before + g (f t) + sum_by g a.after =
    ap (sum_by g) (changed-around traces id t f a) ∙ sum-around g a.before a.after (f t) in
    omega (arith, old, new)

-- a sum loses what the trace adds to it
pub sum-without : (g : Trace → ℕ) (traces : List Trace) (id : ℕ) (t : Trace) → IsRising traces
    → kept_trace traces id ≡ Some t → sum_by g (without_trace id traces) + g t ≡ sum_by g traces
sum-without g traces id t up kept =
    let a = around-kept traces id t up kept in
    let old : sum_by g traces ≡ sum_by g a.before + g t + sum_by g a.after = ap (sum_by g) a.is
    ∙ sum-around g a.before a.after t in
    let new : sum_by g (without_trace id traces) ≡ sum_by g a.before + sum_by g a.after =
    ap (sum_by g) (without-around traces id t a) ∙ sum_by-append g a.before a.after in
    omega (arith, old, new)

-- what holds of each trace, and of the one that is changed
pub all-changed : (P : Trace → Type 0) (f : Trace → Trace) (traces : List Trace) (id : ℕ) (t : Trace)
    → IsRising traces → kept_trace traces id ≡ Some t → All P traces → P (f t)
    → All P (with_changed id f traces)
all-changed P f traces id t up kept all new =
    All-with_changed (λ u. P u × (kept_trace traces u.id ≡ Some u)) P id f
    (λ u was hit. subst (λ (v : Trace). P (f v)) (same_Some t u
    (sym kept ∙ ap (kept_trace traces) (sym (eqb-true u.id id hit)) ∙ was.1)) new)
    (λ u was miss. was.0) traces (λ k d lt. (all k d lt, kept_each traces up k d lt))

-- ids rise where a change keeps them
pub rises-changed : (f : Trace → Trace) → ((t : Trace) → (f t).id ≡ t.id) → (id : ℕ) (traces : List Trace)
    → IsRising traces → IsRising (with_changed id f traces)
rises-changed f same id traces = IsRising-map (λ t. cond (has_id id t) (f t) t) traces
    (λ t. elim (has_id id t) as (λ b. (cond b (f t) t).id ≡ t.id) [ true ↦ same t | false ↦ refl ])

-- an id below those of traces is below the ids of one trace more
below-push : (x : ℕ) (traces : List Trace) (t : Trace)
    → AllByRecursion (λ y. nat_cmp x y ≡ Less) (ids_of traces) → x < t.id
    → AllByRecursion (λ y. nat_cmp x y ≡ Less) (ids_of (traces ++ t ∷ []))
below-push x [] t below lt = (grind (arith, nat_tests), tt)
below-push x (u ∷ us) t below lt = (below.0, below-push x us t below.1 lt)

-- ids rise with one trace more, which has a greater id
pub rises-push : (traces : List Trace) (t : Trace) → All (λ (u : Trace). u.id < t.id) traces → IsRising traces
    → IsRising (traces ++ t ∷ [])
unfolding IsStrictlySortedBy
rises-push [] t all up = (tt, tt)
rises-push (u ∷ us) t all up = (
  below-push u.id us t up.0 (All-head (λ (v : Trace). v.id < t.id) u us all),
  rises-push us t (All-tail (λ (v : Trace). v.id < t.id) u us all) up.1,
)

-- ---- how many traces are open

-- a change that ends no trace and opens none leaves as many open
pub count-changed : (f : Trace → Trace) → ((t : Trace) → (f t).closing ≡ t.closing) → (id : ℕ)
    (traces : List Trace) → open_count (with_changed id f traces) ≡ open_count traces
count-changed f same id [] = refl
count-changed f same id (t ∷ ts) =
    let here : is_open_trace (cond (has_id id t) (f t) t) ≡ is_open_trace t =
    elim (has_id id t) as (λ b. is_open_trace (cond b (f t) t) ≡ is_open_trace t)
    [ true ↦ ap not (same t) | false ↦ refl ] in
    sum_by-cons (λ u. cond (is_open_trace u) 1 0) (cond (has_id id t) (f t) t) (with_changed id f ts)
    ∙ ap₂ ◌+◌ (ap (λ b. cond b 1 0) here) (count-changed f same id ts)
    ∙ sym (sum_by-cons (λ u. cond (is_open_trace u) 1 0) t ts)

-- ---- the trace of an id that is open

-- the trace that is kept is the open one, unless it has ended
pub open-kept : (traces : List Trace) (id : ℕ) (t : Trace) → IsRising traces → kept_trace traces id ≡ Some t
    → open_trace traces id ≡ cond (is_open_trace t) (Some t) None
open-kept traces id t up kept = find-has_id is_open_trace id traces up
    ∙ ap (option_filter is_open_trace) kept

-- where a trace of the id is open, the one that is kept is
pub open-is-kept : (traces : List Trace) (id : ℕ) (t : Trace) → IsRising traces
    → kept_trace traces id ≡ Some t → true ≡ is_some (open_trace traces id)
    → (open_trace traces id ≡ Some t) × (t.closing ≡ false)
open-is-kept traces id t up kept some = by t.closing refl
  where
    at : open_trace traces id ≡ cond (is_open_trace t) (Some t) None
    at = open-kept traces id t up kept

    by : (closing : Bool) → t.closing ≡ closing → (open_trace traces id ≡ Some t) × (t.closing ≡ false)
    by true is =
        let none : open_trace traces id ≡ None = at ∙ ap (λ b. cond (not b) (Some t) None) is in
        let no : true ≡ false = some ∙ ap is_some none in
        absurd cc
    by false is = (at ∙ ap (λ b. cond (not b) (Some t) None) is, is)

-- where a trace of the id is open, one is kept
pub kept-some : (traces : List Trace) (id : ℕ) → true ≡ is_some (open_trace traces id)
    → is_some (kept_trace traces id) ≡ true
kept-some traces id some = by (kept_trace traces id) refl
  where
    by : (o : Option Trace) → kept_trace traces id ≡ o → is_some (kept_trace traces id) ≡ true
    by None none =
        let no : true ≡ false = some ∙ ap is_some (find_stricter (has_id id) is_open_trace traces none) in
        absurd cc
    by (Some t) kept = ap is_some kept
