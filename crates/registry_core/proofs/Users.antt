-- Lists of traces of which the numbers of users change, and those that are over then.
use Rattle.std.proofs.Common.{◌≡◌, ℕ, ◌+◌, ◌-◌, ◌<◌, ◌≤◌, Bool, true, false, cond, not, ◌&&◌, ◌||◌, eqb}
use Rattle.std.proofs.Common.{◌==◌, if◌then◌else◌, inl, inr, List, [], ◌∷◌, map, filter, length, get_or}
use Rattle.std.proofs.Common.{All, sum_by, None, Some, option_map, refl, sym, ap, ap₂}
use Rattle.std.proofs.Common.{◌∙◌, arith}
use Rattle.std.specs.List.{find}
use Rattle.std.proofs.lemmas.Bool.{and_parts, eq-eqb, eqb-true, not-false, or_right}
use Rattle.std.proofs.lemmas.Bool.Decides.{eqb_tells, nat_tests}
use Rattle.std.proofs.lemmas.List.Elements.{All-contains, All-map}
use Rattle.std.proofs.lemmas.List.Folds.{fold-map}
use Rattle.std.proofs.lemmas.List.Sums.{count_by-le-length}
use Rattle.std.proofs.lemmas.Option.{same_Some}
use Rattle.std.proofs.lemmas.Simd.{map-map}
use Rattle.list_lemmas.proofs.Booleans.{not_and-either, not_and-implied}
use Rattle.list_lemmas.proofs.Found.{find-filter_same}
use Rattle.list_lemmas.proofs.Members.{has_or_not}
use Rattle.hall_history.specs.declared.asks.AskIds.{AskIds}
use Rattle.hall_history.specs.declared.asks.AskIds.TheVariants.{One, Two}
use Rattle.registry_core.specs.Asking.{AreUsed, asked_ids, times_asked, without_users}
use Rattle.registry_core.specs.Registry.{IsSoundRegistry, RegistryValue, has_id, is_open_trace, kept_trace}
use Rattle.registry_core.specs.Registry.{open_count}
use Rattle.registry_core.specs.Trace.{IsSoundTrace, Trace, is_over, promise_of, published_tracks, roots_in}
use Rattle.registry_core.specs.Trace.{used_less}
use Rattle.registry_core.proofs.FilteredLists.{filter-filter, filter_agrees}
use Rattle.registry_core.proofs.KeptTraces.{kept_each}

-- ---- numbers of users

-- traces with other numbers of users have their ids
pub ids-users : (users : Trace → ℕ) (traces : List Trace)
    → map (λ (t : Trace). t.id) (map (λ (t : Trace). record t { users = users t }) traces)
    ≡ map (λ (t : Trace). t.id) traces
ids-users users traces = map-map (λ (t : Trace). t.id) (λ (t : Trace). record t { users = users t }) traces

-- as many of them are open
pub open_count-users : (users : Trace → ℕ) (traces : List Trace)
    → open_count (map (λ (t : Trace). record t { users = users t }) traces) ≡ open_count traces
open_count-users users traces = fold-map (λ n (t : Trace). n + cond (is_open_trace t) 1 0)
    (λ (t : Trace). record t { users = users t }) 0 traces

-- as many places are promised to them
pub promises-users : (users : Trace → ℕ) (traces : List Trace)
    → sum_by promise_of (map (λ (t : Trace). record t { users = users t }) traces) ≡ sum_by promise_of traces
promises-users users traces = fold-map (λ n (t : Trace). n + promise_of t)
    (λ (t : Trace). record t { users = users t }) 0 traces

-- no id is asked for more than twice
pub times_asked-le : (ids : AskIds) (id : ℕ) → times_asked ids id ≤ 2
times_asked-le (One a) id = omega (arith, count_by-le-length (λ x. eqb x id) (a ∷ []))
times_asked-le (Two a b) id = omega (arith, count_by-le-length (λ x. eqb x id) (a ∷ b ∷ []))

-- where traces are in use, each has as many users as times it is named
pub used_each : (r : RegistryValue) (ids : AskIds) → IsSoundRegistry r → AreUsed r ids
    → All (λ (t : Trace). times_asked ids t.id ≤ t.users) r.traces
used_each r ids sound used k d lt =
    let t = get_or r.traces k d in
    let kept : kept_trace r.traces t.id ≡ Some t = kept_each r.traces sound.rising k d lt in
    elim (has_or_not t.id (asked_ids ids)) [
      | inl none ↦ omega (arith, none)
      | inr asked ↦
          let u = All-contains (λ id. (t : Trace) × (kept_trace r.traces id ≡ Some t)
          × (times_asked ids id ≤ t.users)) (asked_ids ids) t.id used asked in
          let same : u.0 ≡ t = same_Some u.0 t (sym u.1 ∙ kept) in
          omega (arith, u.2, ap (λ (t : Trace). t.users) same)
    ]

-- ---- traces that are over

-- a trace that is over once it was given back was named
pub over_named : (place : ℕ) (ids : AskIds) (t : Trace) → IsSoundTrace place t
    → is_over (used_less (times_asked ids t.id) t) ≡ true → 0 < times_asked ids t.id
over_named place ids t sound over =
    let parts = and_parts t.closing (eqb (t.users - times_asked ids t.id) 0) over in
    omega (arith, sound.used parts.0, eqb-true (t.users - times_asked ids t.id) 0 parts.1)

-- nothing is promised to it
pub over_unpromised : (place n : ℕ) (t : Trace) → IsSoundTrace place t
    → not (is_over (used_less n t)) ≡ false → promise_of (used_less n t) ≡ 0
over_unpromised place n t sound over =
    let parts = and_parts t.closing (eqb (t.users - n) 0) (not-false (is_over (used_less n t)) over) in
    ap (λ b. cond b (length t.tracks - published_tracks t + 1) 0) (sound.ended parts.0)

-- it isn't open
pub over_closing : (t : Trace) → not (is_over t) ≡ false → ◌≡◌ {A = ℕ} (cond (is_open_trace t) 1 0) 0
over_closing t over =
    let parts = and_parts t.closing (eqb t.users 0) (not-false (is_over t) over) in
    ap (λ b. cond (not b) 1 0) parts.0

-- where one id is named, an id that is named is that one
only_named : (a id : ℕ) → 0 < times_asked (One a) id → eqb id a ≡ true
only_named a id named =
    elim (eqb_tells a id) [
      | inl same ↦ eq-eqb id a (sym same.1)
      | inr other ↦ absurd (omega (arith, named, ap {B = ℕ} (λ b. cond b 1 0) other.0))
    ]

-- where two are named, it is one of them
either_named : (a b id : ℕ) → 0 < times_asked (Two a b) id → (eqb id a || eqb id b) ≡ true
either_named a b id named =
    elim (eqb_tells a id) [
      | inl same ↦ ap (λ c. c || eqb id b) (eq-eqb id a (sym same.1))
      | inr none ↦ elim (eqb_tells b id) [
        | inl same ↦ or_right (eqb id a) (eqb id b) (eq-eqb id b (sym same.1))
        | inr other ↦
            let one : Bool → ℕ = λ b. cond b 1 0 in
            absurd (omega (arith, named, ap one none.0, ap one other.0))
      ]
    ]

-- where one trace was named, only that one can be over
pub kept_but_one : (place a : ℕ) (traces : List Trace) → All (IsSoundTrace place) traces
    → filter (λ t. not (has_id a t && is_over t)) (without_users (One a) traces)
    ≡ filter (λ t. not (is_over t)) (without_users (One a) traces)
kept_but_one place a traces sound = filter_agrees (λ t. not (has_id a t && is_over t)) (λ t. not (is_over t))
    (without_users (One a) traces)
    (All-map (λ t. not (has_id a t && is_over t) ≡ not (is_over t))
    (λ t. used_less (times_asked (One a) t.id) t) traces
    (λ k d lt. let t = get_or traces k d in
    not_and-implied (is_over (used_less (times_asked (One a) t.id) t)) (has_id a t)
    (λ over. only_named a t.id (over_named place (One a) t (sound k d lt) over))))

-- where two traces were named, only those can be over
pub kept_but_two : (place a b : ℕ) (traces : List Trace) → All (IsSoundTrace place) traces
    → filter (λ t. not (has_id b t && is_over t))
    (filter (λ t. not (has_id a t && is_over t)) (without_users (Two a b) traces))
    ≡ filter (λ t. not (is_over t)) (without_users (Two a b) traces)
kept_but_two place a b traces sound = filter-filter (λ t. not (has_id a t && is_over t))
    (λ t. not (has_id b t && is_over t)) (without_users (Two a b) traces)
    ∙ filter_agrees (λ t. not (has_id a t && is_over t) && not (has_id b t && is_over t))
    (λ t. not (is_over t)) (without_users (Two a b) traces)
    (All-map (λ t. (not (has_id a t && is_over t) && not (has_id b t && is_over t)) ≡ not (is_over t))
    (λ t. used_less (times_asked (Two a b) t.id) t) traces
    (λ k d lt. let t = get_or traces k d in
    not_and-either (is_over (used_less (times_asked (Two a b) t.id) t)) (has_id a t) (has_id b t)
    (λ over. either_named a b t.id (over_named place (Two a b) t (sound k d lt) over))))

-- what is over and has the second id was kept before, unless both ids are the same
none_of_the_first : (a b : ℕ) (t : Trace) → (has_id b t && is_over t) ≡ true
    → not (has_id a t && is_over t) ≡ not (eqb a b)
none_of_the_first a b t here =
    let parts = and_parts (has_id b t) (is_over t) here in
    let same : t.id ≡ b = eqb-true t.id b parts.0 in
    ap₂ (λ x y. not (eqb x a && y)) same parts.1 ∙ grind (arith, nat_tests)

-- the second trace's roots come free, but for those of a trace that is named twice
pub second_freed : (a b : ℕ) (traces : List Trace)
    → option_map (λ (t : Trace). roots_in t.tracks) (find (λ t. has_id b t && is_over t)
    (filter (λ t. not (has_id a t && is_over t)) traces))
    ≡ (if a == b then None else option_map (λ (t : Trace). roots_in t.tracks)
    (find (λ t. has_id b t && is_over t) traces))
second_freed a b traces =
    ap (option_map (λ (t : Trace). roots_in t.tracks)) (find-filter_same (λ t. not (has_id a t && is_over t))
    (λ t. has_id b t && is_over t) (not (eqb a b)) (none_of_the_first a b) traces)
    ∙ elim (eqb a b) as (λ c. option_map (λ (t : Trace). roots_in t.tracks)
    (cond (not c) (find (λ t. has_id b t && is_over t) traces) None)
    ≡ cond c None (option_map (λ (t : Trace). roots_in t.tracks)
    (find (λ t. has_id b t && is_over t) traces))) [ true ↦ refl | false ↦ refl ]
