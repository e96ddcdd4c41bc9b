-- The users of traces are queries: what each change leaves of that.
use Rattle.std.proofs.Common.{◌≡◌, ℕ, ◌+◌, ◌<◌, ◌≤◌, Bool, true, false, ◌&&◌, not, cond, eqb, List, []}
use Rattle.std.proofs.Common.{◌∷◌, ◌++◌, All, filter, None, Some, inl, inr, refl, sym, ap, ◌∙◌}
use Rattle.std.proofs.Common.{arith, eq-eqb, option_map, find, zero, suc}
use Rattle.std.specs.Prelude.{is_some, IsSome}
use Rattle.std.specs.Option.{option_or}
use Rattle.std.proofs.lemmas.Bool.{cases_Bool, and_right, not-false}
use Rattle.std.proofs.lemmas.Bool.Decides.{eqb_tells, nat_tests}
use Rattle.std.proofs.lemmas.List.Elements.{All-cons, All-contains, All-filter, All-map, All-nil, All-push}
use Rattle.std.proofs.lemmas.List.Elements.{All-weaker}
use Rattle.std.proofs.lemmas.List.Sums.{sum_by-cons}
use Rattle.std.proofs.lemmas.Map.Entries.{option_filter}
use Rattle.list_lemmas.proofs.All.{All-found, All-one, All-two}
use Rattle.list_lemmas.proofs.Booleans.{one_if}
use Rattle.list_lemmas.proofs.Filters.{count_by-cons}
use Rattle.list_lemmas.proofs.Found.{find-filter, find-map, find-map_same}
use Rattle.list_lemmas.proofs.Members.{has_or_not}
use Rattle.list_lemmas.proofs.Options.{given_some, is_some-map}
use Rattle.hall_history.specs.declared.asks.AskIds.{AskIds}
use Rattle.hall_history.specs.declared.asks.AskIds.TheVariants.{One, Two}
use Rattle.registry_core.specs.Asking.{AreUsed, asked_ids, first_unknown, times_asked, with_users}
use Rattle.registry_core.specs.Asking.{without_users}
use Rattle.registry_core.specs.Registry.{RegistryValue, has_id, kept_trace, with_changed}
use Rattle.registry_core.specs.Registry.{open_trace, without_trace}
use Rattle.registry_core.specs.Trace.{Trace, is_over, used_less, used_more}
use Rattle.registry_core.specs.UsedBy.{AreUsedBy, times_named}
use Rattle.registry_core.proofs.KeptTraces.{All-with_changed, IsRising, find-has_id, kept_id}
use Rattle.registry_core.proofs.LawTraces.{KeepsId, kept_changed, kept_more}
use Rattle.registry_core.proofs.OneTrace.{kept-some}

-- the trace has as many users as times that these queries name it
abbrev pub HasUsers : List AskIds → Trace → Type 0
HasUsers queries t = t.users ≡ times_named queries t.id

-- ---- one trace more, or changed

pub used-opened : (traces : List Trace) (u : Trace) (queries : List AskIds) → u.users ≡ 0
    → kept_trace traces u.id ≡ None → AreUsedBy traces queries → AreUsedBy (traces ++ u ∷ []) queries
used-opened traces u queries unused none was = record {
  users = All-push (HasUsers queries) traces u was.users (by (times_named queries u.id) refl);
  kept = λ id named.
      let old = given_some (kept_trace traces id) (was.kept id named) in
      ap is_some (kept_more traces u id ∙ ap (λ o. option_or o (cond (has_id id u) (Some u) None)) old.1);
}
  where
    by : (n : ℕ) → times_named queries u.id ≡ n → u.users ≡ times_named queries u.id
    by zero is = unused ∙ sym is
    by (suc n) is =
        let there : true ≡ false = sym (was.kept u.id (omega (arith, is))) ∙ ap is_some none in absurd cc

pub used-changed : (id : ℕ) (f : Trace → Trace) (traces : List Trace) (queries : List AskIds) → KeepsId f
    → ((t : Trace) → (f t).users ≡ t.users) → AreUsedBy traces queries
    → AreUsedBy (with_changed id f traces) queries
used-changed id f traces queries ids users was = record {
  users = All-with_changed (HasUsers queries) (HasUsers queries) id f
      (λ t has hit. users t ∙ has ∙ ap (times_named queries) (sym (ids t))) (λ t has miss. has) traces
      was.users;
  kept = λ other named. ap is_some (kept_changed id f traces other ids)
      ∙ is_some-map _ (kept_trace traces other) ∙ was.kept other named;
}

-- ---- a trace without users is gone

-- the others are found as before
pub kept-without : (id other : ℕ) (traces : List Trace) → eqb id other ≡ false
    → kept_trace (without_trace id traces) other ≡ kept_trace traces other
kept-without id other [] ne = refl
kept-without id other (t ∷ traces) ne = elim (cases_Bool (eqb t.id id)) [
  | inl hit ↦
      let miss : eqb t.id other ≡ false = grind (arith, nat_tests) in
      ap (λ b. kept_trace (cond (not b) (t ∷ without_trace id traces) (without_trace id traces)) other) hit
      ∙ kept-without id other traces ne ∙ sym (ap (λ b. cond b (Some t) (kept_trace traces other)) miss)
  | inr miss ↦
      ap (λ b. kept_trace (cond (not b) (t ∷ without_trace id traces) (without_trace id traces)) other) miss
      ∙ ap (λ o. cond (eqb t.id other) (Some t) o) (kept-without id other traces ne)
]

pub used-without : (traces : List Trace) (t : Trace) (queries : List AskIds) → HasUsers queries t
    → t.users ≡ 0 → AreUsedBy traces queries → AreUsedBy (without_trace t.id traces) queries
used-without traces t queries has unused was = record {
  users = All-filter (λ u. not (has_id t.id u)) (HasUsers queries) traces was.users;
  kept = λ id named. elim (eqb_tells t.id id) [
    | inl same ↦ absurd (omega (arith, named, has, unused, ap (times_named queries) same.1))
    | inr other ↦ ap is_some (kept-without t.id id traces other.0) ∙ was.kept id named
  ];
}

-- ---- one query more, or given back

-- an id is named by the first query and by the others
pub named-first : (ids : AskIds) (queries : List AskIds) (id : ℕ)
    → times_named (ids ∷ queries) id ≡ times_asked ids id + times_named queries id
named-first ids queries id = sum_by-cons (λ (q : AskIds). times_asked q id) ids queries

-- what no item passes fails at each
none_passes : {X : Type 0} (p : X → Bool) (xs : List X) → find p xs ≡ None → All (λ x. p x ≡ false) xs
none_passes p [] none = All-nil (λ x. p x ≡ false)
none_passes p (x ∷ xs) none = elim (cases_Bool (p x)) [
  | inl hit ↦ let found = rw hit at none in absurd cc
  | inr miss ↦
      let later = rw miss at none in All-cons (λ y. p y ≡ false) x xs miss (none_passes p xs later)
]

-- a trace that is asked for is open, where none is unknown
pub known-open : (r : RegistryValue) (ids : AskIds) → first_unknown r ids ≡ None → (id : ℕ)
    → 0 < times_asked ids id → is_some (open_trace r.traces id) ≡ true
known-open r ids known id asked = elim (has_or_not id (asked_ids ids)) [
  | inl none ↦ absurd (omega (arith, none, asked))
  | inr there ↦
      let open_one : not (is_some (open_trace r.traces id)) ≡ false =
      All-contains (λ x. not (is_some (open_trace r.traces x)) ≡ false) (asked_ids ids) id
      (none_passes (λ x. not (is_some (open_trace r.traces x))) (asked_ids ids) known) there in
      not-false (is_some (open_trace r.traces id)) open_one
]

-- so it is kept
pub known-kept : (r : RegistryValue) (ids : AskIds) → first_unknown r ids ≡ None → (id : ℕ)
    → 0 < times_asked ids id → IsSome (kept_trace r.traces id)
known-kept r ids known id asked = kept-some r.traces id (sym (known-open r ids known id asked))

pub used-asked : (ids : AskIds) (traces : List Trace) (queries : List AskIds)
    → ((id : ℕ) → 0 < times_asked ids id → IsSome (kept_trace traces id)) → AreUsedBy traces queries
    → AreUsedBy (with_users ids traces) (ids ∷ queries)
used-asked ids traces queries known was = record {
  users = All-map (HasUsers (ids ∷ queries)) (λ t. used_more (times_asked ids t.id) t) traces
      (All-weaker (HasUsers queries) (λ t. HasUsers (ids ∷ queries) (used_more (times_asked ids t.id) t))
      (λ t has. omega (arith, has, named-first ids queries t.id)) traces was.users);
  kept = λ id named. ap is_some (find-map_same (has_id id) (λ t. used_more (times_asked ids t.id) t)
      (λ t. refl) traces) ∙ is_some-map _ (kept_trace traces id) ∙ by id (times_asked ids id) refl named;
}
  where
    by : (id n : ℕ) → times_asked ids id ≡ n → 0 < times_named (ids ∷ queries) id
        → IsSome (kept_trace traces id)
    by id zero none named =
        was.kept id (omega (arith, none, named, named-first ids queries id))
    by id (suc n) some named = known id (omega (arith, some))

-- a trace that is named is kept with enough users
named-in_use : (r : RegistryValue) (ids : AskIds) (queries : List AskIds) (id : ℕ)
    → AreUsedBy r.traces (ids ∷ queries) → 0 < times_asked ids id
    → (t : Trace) × (kept_trace r.traces id ≡ Some t) × (times_asked ids id ≤ t.users)
named-in_use r ids queries id was named =
    let (t, kept) = given_some (kept_trace r.traces id)
    (was.kept id (omega (arith, named, named-first ids queries id))) in
    let has = All-found (HasUsers (ids ∷ queries)) (has_id id) r.traces t was.users kept in (
      t,
      kept,
      omega (
        arith,
        has,
        ap (times_named (ids ∷ queries)) (kept_id r.traces id t kept),
        named-first ids queries id,
      ),
    )

-- each id that is asked for is named
asked_first : (a : ℕ) → 0 < times_asked (One a) a
asked_first a = omega (
  arith,
  count_by-cons (λ x. eqb x a) a [],
  ap one_if (eq-eqb a a refl),
)

asked_either : (a b : ℕ) → (0 < times_asked (Two a b) a) × (0 < times_asked (Two a b) b)
asked_either a b = (
  omega (
    arith,
    count_by-cons (λ x. eqb x a) a (b ∷ []),
    ap one_if (eq-eqb a a refl),
  ),
  omega (
    arith,
    count_by-cons (λ x. eqb x b) a (b ∷ []),
    count_by-cons (λ x. eqb x b) b [],
    ap one_if (eq-eqb b b refl),
  ),
)

-- what holds of each id that is asked for, said of their list
pub all_asked : (P : ℕ → Type 0) (ids : AskIds) → ((id : ℕ) → 0 < times_asked ids id → P id)
    → All P (asked_ids ids)
all_asked P (One a) each = All-one P a (each a (asked_first a))
all_asked P (Two a b) each = All-two P a b (each a (asked_either a b).0) (each b (asked_either a b).1)

pub used-in_use : (r : RegistryValue) (ids : AskIds) (queries : List AskIds)
    → AreUsedBy r.traces (ids ∷ queries) → AreUsed r ids
used-in_use r ids queries was =
    all_asked (λ id. (t : Trace) × (kept_trace r.traces id ≡ Some t) × (times_asked ids id ≤ t.users)) ids
    (λ id named. named-in_use r ids queries id was named)

-- a trace with a user isn't over
pub used-on : (t : Trace) → 0 < t.users → not (is_over t) ≡ true
used-on t used =
    let some : eqb t.users 0 ≡ false = grind (arith, nat_tests) in
    ap not (and_right t.closing (eqb t.users 0) some)

-- so it is left where others are given back
pub kept-given_back : (ids : AskIds) (traces : List Trace) (id : ℕ) (t : Trace) → IsRising traces
    → kept_trace traces id ≡ Some t → times_asked ids t.id < t.users
    → kept_trace (filter (λ t. not (is_over t)) (without_users ids traces)) id
    ≡ Some (used_less (times_asked ids t.id) t)
kept-given_back ids traces id t up kept used =
    let found : find (λ u. has_id id u && left (less u)) traces ≡ Some t =
    find-has_id (λ u. left (less u)) id traces up ∙ ap (option_filter (λ u. left (less u))) kept
    ∙ ap (λ b. cond b (Some t) None) (used-on (less t) (omega (arith, used))) in
    find-filter (has_id id) left (without_users ids traces)
    ∙ find-map (λ u. has_id id u && left u) less traces ∙ ap (option_map less) found
  where
    less : Trace → Trace
    less t = used_less (times_asked ids t.id) t

    left : Trace → Bool
    left t = not (is_over t)

pub used-given_back : (ids : AskIds) (traces : List Trace) (queries : List AskIds) → IsRising traces
    → AreUsedBy traces (ids ∷ queries)
    → AreUsedBy (filter (λ t. not (is_over t)) (without_users ids traces)) queries
used-given_back ids traces queries up was = record {
  users = All-filter (λ t. not (is_over t)) (HasUsers queries) (without_users ids traces)
      (All-map (HasUsers queries) less traces (All-weaker (HasUsers (ids ∷ queries))
      (λ t. HasUsers queries (less t)) (λ t has. omega (arith, has, named-first ids queries t.id)) traces
      was.users));
  kept = λ id named.
      let (t, kept) = given_some (kept_trace traces id)
      (was.kept id (omega (arith, named, named-first ids queries id))) in
      let has = All-found (HasUsers (ids ∷ queries)) (has_id id) traces t was.users kept in
      ap is_some (kept-given_back ids traces id t up kept (omega (
        arith,
        has,
        named,
        ap (times_named queries) (kept_id traces id t kept),
        named-first ids queries t.id,
      )));
}
  where
    less : Trace → Trace
    less t = used_less (times_asked ids t.id) t
