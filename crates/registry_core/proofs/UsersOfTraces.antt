-- The users of traces, once one or two ids are named.
use Rattle.std.proofs.Common.{◌≡◌, ℕ, ◌+◌, ◌-◌, ◌<◌, ◌≤◌, cond, eqb, List, map, refl, ap, ◌∙◌, sym, subst}
use Rattle.std.proofs.Common.{arith, inl, inr, Some}
use Rattle.std.specs.List.{All}
use Rattle.std.proofs.lemmas.Bool.{cases_Bool, cond-true, cond-false, eq-eqb}
use Rattle.std.proofs.lemmas.Simd.{map-map}
use Rattle.list_lemmas.proofs.All.{All-found}
use Rattle.list_lemmas.proofs.Maps.{map_agree}
use Rattle.list_lemmas.proofs.Numbers.{eqb_flip}
use Rattle.hall_history.specs.declared.asks.AskIds.TheVariants.{One, Two}
use Rattle.registry_core.specs.Asking.{times_asked, with_users, without_users}
use Rattle.registry_core.specs.Registry.{has_id, kept_trace, with_changed}
use Rattle.registry_core.specs.Trace.{Trace, used_less, used_more}
use Rattle.registry_core.proofs.KeptTraces.{All-with_changed, kept_id}
use Rattle.registry_core.proofs.LawTraces.{KeepsId}

-- one id is asked for once
times_one : (a id : ℕ) → times_asked (One a) id ≡ cond (eqb id a) 1 0
times_one a id = omega (arith, ap {B = ℕ} (λ b. cond b 1 0) (eqb_flip a id))

-- each of two ids is asked for once
times_two : (a b id : ℕ) → times_asked (Two a b) id ≡ cond (eqb id a) 1 0 + cond (eqb id b) 1 0
times_two a b id = omega (
  arith,
  ap {B = ℕ} (λ x. cond x 1 0) (eqb_flip a id),
  ap {B = ℕ} (λ x. cond x 1 0) (eqb_flip b id),
)

-- traces that are used so many times more, or fewer, once for each time that their id is named
module _ (use_by : ℕ → Trace → Trace) (none : (t : Trace) → use_by 0 t ≡ t)
    (twice : (t : Trace) → use_by 1 (use_by 1 t) ≡ use_by 2 t) (stays : (n : ℕ) → KeepsId (use_by n)) where
  -- a trace that was used n times, and once more if it has this id too
  named_next : (b n m : ℕ) (t : Trace) → use_by 1 (use_by n t) ≡ use_by (n + 1) t
      → m ≡ n + cond (eqb t.id b) 1 0
      → cond (eqb (use_by n t).id b) (use_by 1 (use_by n t)) (use_by n t) ≡ use_by m t
  named_next b n m t once total = elim (cases_Bool (eqb t.id b)) [
    | inl hit ↦
        let one : ◌≡◌ {A = ℕ} (cond (eqb t.id b) 1 0) 1 = ap (λ x. cond x 1 0) hit in
        let sum : n + 1 ≡ m = omega (arith, total, one) in
        cond-true _ _ _ (ap (λ id. eqb id b) (stays n t) ∙ hit) ∙ once ∙ ap (λ k. use_by k t) sum
    | inr miss ↦
        let zero : ◌≡◌ {A = ℕ} (cond (eqb t.id b) 1 0) 0 = ap (λ x. cond x 1 0) miss in
        let sum : n ≡ m = omega (arith, total, zero) in
        cond-false _ _ _ (ap (λ id. eqb id b) (stays n t) ∙ miss) ∙ ap (λ k. use_by k t) sum
  ]

  -- a trace that is used once if it has this id
  named_first : (a m : ℕ) (t : Trace) → m ≡ cond (eqb t.id a) 1 0
      → cond (eqb t.id a) (use_by 1 t) t ≡ use_by m t
  named_first a m t total =
      let from_none = named_next a 0 m t (ap (use_by 1) (none t)) (omega (arith, total)) in
      subst (λ (u : Trace). cond (eqb u.id a) (use_by 1 u) u ≡ use_by m t) (none t) from_none

  -- traces of which those of two ids are used, one after the other
  used_twice : (a b : ℕ) (traces : List Trace)
      → with_changed b (use_by 1) (with_changed a (use_by 1) traces)
      ≡ map (λ t. use_by (times_asked (Two a b) t.id) t) traces
  used_twice a b traces = map-map _ _ traces ∙ map_agree _ _ (λ t. elim (cases_Bool (eqb t.id a)) [
    | inl hit ↦
        let first = cond-true (eqb t.id a) (use_by 1 t) t hit in
        let one : ◌≡◌ {A = ℕ} (cond (eqb t.id a) 1 0) 1 = ap (λ x. cond x 1 0) hit in
        subst (λ (u : Trace). cond (eqb u.id b) (use_by 1 u) u ≡ use_by (times_asked (Two a b) t.id) t)
        (sym first)
        (named_next b 1 (times_asked (Two a b) t.id) t (twice t) (omega (arith, times_two a b t.id, one)))
    | inr miss ↦
        let first = cond-false (eqb t.id a) (use_by 1 t) t miss in
        let zero : ◌≡◌ {A = ℕ} (cond (eqb t.id a) 1 0) 0 = ap (λ x. cond x 1 0) miss in
        subst (λ (u : Trace). cond (eqb u.id b) (use_by 1 u) u ≡ use_by (times_asked (Two a b) t.id) t)
        (sym first)
        (named_first b (times_asked (Two a b) t.id) t (omega (arith, times_two a b t.id, zero)))
  ]) traces

-- ---- users more

-- no user more changes nothing
more_none : (t : Trace) → used_more 0 t ≡ t
more_none t = let e : t.users + 0 ≡ t.users = omega arith in ap (λ n. record t { users = n }) e

-- one user more, and another, are two
more_twice : (t : Trace) → used_more 1 (used_more 1 t) ≡ used_more 2 t
more_twice t = let e : t.users + 1 + 1 ≡ t.users + 2 = omega arith in ap (λ n. record t { users = n }) e

-- two users more, one after the other
pub raised_twice : (a b : ℕ) (traces : List Trace)
    → with_changed b (used_more 1) (with_changed a (used_more 1) traces) ≡ with_users (Two a b) traces
raised_twice = used_twice used_more more_none more_twice (λ n t. refl)

-- ---- users fewer

-- no user fewer changes nothing
fewer_none : (t : Trace) → used_less 0 t ≡ t
fewer_none t = let e : t.users - 0 ≡ t.users = omega arith in ap (λ n. record t { users = n }) e

-- one user fewer, and another, are two
fewer_twice : (t : Trace) → used_less 1 (used_less 1 t) ≡ used_less 2 t
fewer_twice t = let e : t.users - 1 - 1 ≡ t.users - 2 = omega arith in ap (λ n. record t { users = n }) e

-- two users fewer, one after the other
pub lowered_twice : (a b : ℕ) (traces : List Trace)
    → with_changed b (used_less 1) (with_changed a (used_less 1) traces) ≡ without_users (Two a b) traces
lowered_twice = used_twice used_less fewer_none fewer_twice (λ n t. refl)

-- ---- that users may be added and taken away

-- after the first of two ids has lost a user, each trace has those that are left to take
pub fewer_left : (a b : ℕ) (traces : List Trace)
    → All (λ (t : Trace). times_asked (Two a b) t.id ≤ t.users) traces
    → All (λ (t : Trace). times_asked (One b) t.id ≤ t.users) (with_changed a (used_less 1) traces)
fewer_left a b traces all = All-with_changed (λ (t : Trace). times_asked (Two a b) t.id ≤ t.users)
    (λ (t : Trace). times_asked (One b) t.id ≤ t.users) a (used_less 1)
    (λ t most hit.
    let one : ◌≡◌ {A = ℕ} (cond (eqb t.id a) 1 0) 1 = ap (λ x. cond x 1 0) hit in
    omega (arith, most, one, times_one b t.id, times_two a b t.id))
    (λ t most miss. omega (arith, most, times_one b t.id, times_two a b t.id)) traces all

-- a trace that is found under an id that is asked for has a user
pub used_at_one : (a : ℕ) (traces : List Trace) (t : Trace)
    → All (λ (t : Trace). times_asked (One a) t.id ≤ t.users) traces → kept_trace traces a ≡ Some t
    → 1 ≤ t.users
used_at_one a traces t all found =
    let most = All-found (λ (t : Trace). times_asked (One a) t.id ≤ t.users) (has_id a) traces t all found in
    let one : ◌≡◌ {A = ℕ} (cond (eqb t.id a) 1 0) 1 =
    ap (λ x. cond x 1 0) (eq-eqb t.id a (kept_id traces a t found)) in
    omega (arith, most, one, times_one a t.id)

-- so has the first of two ids
pub used_at_two : (a b : ℕ) (traces : List Trace) (t : Trace)
    → All (λ (t : Trace). times_asked (Two a b) t.id ≤ t.users) traces → kept_trace traces a ≡ Some t
    → 1 ≤ t.users
used_at_two a b traces t all found =
    let most =
    All-found (λ (t : Trace). times_asked (Two a b) t.id ≤ t.users) (has_id a) traces t all found in
    let one : ◌≡◌ {A = ℕ} (cond (eqb t.id a) 1 0) 1 =
    ap (λ x. cond x 1 0) (eq-eqb t.id a (kept_id traces a t found)) in
    omega (arith, most, one, times_two a b t.id)

-- after a user more each trace has fewer than one more than before
pub fewer_than : (m n a : ℕ) (traces : List Trace) → m + 1 ≤ n → All (λ (t : Trace). t.users < m) traces
    → All (λ (t : Trace). t.users < n) (with_changed a (used_more 1) traces)
fewer_than m n a traces le all = All-with_changed (λ (t : Trace). t.users < m) (λ (t : Trace). t.users < n) a
    (used_more 1) (λ t few hit. omega arith) (λ t few miss. omega arith) traces all
