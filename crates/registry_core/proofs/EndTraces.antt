-- What is found among the traces of a registry after one of them has ended.
use Rattle.std.proofs.Common.{◌≡◌, ℕ, Bool, true, false, ◌&&◌, not, if◌then◌else◌, eqb, List, map, Some, find}
use Rattle.std.proofs.Common.{option_map, is_some, refl, sym, ap, ap₂, ◌∙◌, subst, inl, inr, arith}
use Rattle.std.proofs.Math.Bool.{and-false, and-true, and_assoc}
use Rattle.std.proofs.lemmas.Bool.Decides.{eqb_tells, nat_tests}
use Rattle.list_lemmas.proofs.Found.{find-filter, find-map, find-map_same, find_agree, found_passes}
use Rattle.list_lemmas.proofs.Found.{is_some-find_and}
use Rattle.list_lemmas.proofs.Options.{is_some-map, option_map_found}
use Rattle.registry_core.specs.Registry.{has_id, is_open_trace, kept_trace, open_trace, with_changed}
use Rattle.registry_core.specs.Registry.{without_trace}
use Rattle.registry_core.specs.Trace.{Trace, kept_for_users}
use Rattle.registry_core.proofs.KeepsMore.{SameTracks}
use Rattle.registry_core.proofs.KeptTraces.{IsRising, is_open_as, kept_too}

-- One trace is no longer open, nor loading if it is kept at all; nothing else differs.
pub record EndsTrace (id : ℕ) (old new : List Trace) : Type 0 where
  pub opens : (x : ℕ) → is_some (open_trace new x) ≡ (is_some (open_trace old x) && not (eqb id x))
  pub traces : (x : ℕ) (u : Trace) → kept_trace new x ≡ Some u → (t : Trace) × (kept_trace old x ≡ Some t)
      × SameTracks t u × (u.loading ≡ (t.loading && not (eqb id x)))

-- whether a trace has an id, by the one that it has
other_id : (id x : ℕ) (t : Trace) → has_id x t ≡ true → has_id id t ≡ eqb id x
other_id id x t this = grind (arith, nat_tests)

-- it may be gone
pub ends-gone : (id : ℕ) (traces : List Trace) → IsRising traces
    → EndsTrace id traces (without_trace id traces)
ends-gone id traces rising = record {
  opens = λ x. ap is_some (find-filter (is_open_as x) (λ t. not (has_id id t)) traces
      ∙ find_agree _ _ (agree x) traces) ∙ is_some-find_and (is_open_as x) (not (eqb id x)) traces;
  traces = λ x u kept.
      let found : find (λ t. has_id x t && not (has_id id t)) traces ≡ Some u =
      sym (find-filter (has_id x) (λ t. not (has_id id t)) traces) ∙ kept in
      let was : kept_trace traces x ≡ Some u = kept_too (λ t. not (has_id id t)) traces x u rising found in
      let this : has_id x u ≡ true = found_passes (has_id x) traces u was in
      let passes : not (has_id id u) ≡ true = sym (ap (λ b. b && not (has_id id u)) this) ∙ found_passes
      (λ t. has_id x t && not (has_id id t)) traces u found in (
        u,
        was,
        record { id = refl; info = refl; tracks = refl },
        sym (ap (λ b. u.loading && b) (ap not (sym (other_id id x u this)) ∙ passes) ∙ and-true u.loading),
      );
}
  where
    agree : (x : ℕ) (t : Trace)
        → (is_open_as x t && not (has_id id t)) ≡ (is_open_as x t && not (eqb id x))
    agree x t = elim (eqb_tells t.id x) [
      | inl same ↦ ap (λ b. is_open_as x t && not b) (other_id id x t same.0)
      | inr other ↦ rw other.0 refl
    ]

-- a trace that is kept for its users, if it is this one
abbrev kept_if : Bool → Trace → Trace
kept_if b t = if b then kept_for_users t else t

-- it has the same tracks
kept_same : (b : Bool) (t : Trace) → SameTracks t (kept_if b t)
kept_same true t = record { id = refl; info = refl; tracks = refl }
kept_same false t = record { id = refl; info = refl; tracks = refl }

-- it is loading where it was, but for this one
kept_loading : (b : Bool) (t : Trace) → (kept_if b t).loading ≡ (t.loading && not b)
kept_loading true t = sym (and-false t.loading)
kept_loading false t = sym (and-true t.loading)

-- it is open where it was, but for this one
kept_open : (b : Bool) (t : Trace) → is_open_trace (kept_if b t) ≡ (is_open_trace t && not b)
kept_open true t = sym (and-false (is_open_trace t))
kept_open false t = sym (and-true (is_open_trace t))

-- or kept for its users
pub ends-kept : (id : ℕ) (traces : List Trace) → EndsTrace id traces (with_changed id kept_for_users traces)
ends-kept id traces = record {
  opens = λ x. ap is_some (find-map (is_open_as x) ended traces) ∙ is_some-map ended _
      ∙ ap is_some (find_agree _ _ (agree x) traces)
      ∙ is_some-find_and (is_open_as x) (not (eqb id x)) traces;
  traces = λ x u kept.
      let found : kept_trace (map ended traces) x ≡ option_map ended (kept_trace traces x) =
      find-map_same (has_id x) ended (λ t. ap (λ n. eqb n x) (kept_same (has_id id t) t).id) traces in
      let one = option_map_found ended (kept_trace traces x) u (sym found ∙ kept) in
      let t = one.0 in
      let this : has_id x t ≡ true = found_passes (has_id x) traces t one.1 in (
        t,
        one.1,
        subst (SameTracks t) one.2 (kept_same (has_id id t) t),
        ap (λ (v : Trace). v.loading) (sym one.2) ∙ kept_loading (has_id id t) t
            ∙ ap (λ b. t.loading && not b) (other_id id x t this),
      );
}
  where
    ended : Trace → Trace
    ended t = kept_if (has_id id t) t

    agree : (x : ℕ) (t : Trace) → is_open_as x (ended t) ≡ (is_open_as x t && not (eqb id x))
    agree x t = ap₂ ◌&&◌ (ap (λ n. eqb n x) (kept_same (has_id id t) t).id) (kept_open (has_id id t) t)
        ∙ elim (eqb_tells t.id x) [
          | inl same ↦ ap (λ b. has_id x t && (is_open_trace t && not b)) (other_id id x t same.0)
              ∙ sym (and_assoc (has_id x t) (is_open_trace t) (not (eqb id x)))
          | inr other ↦ rw other.0 refl
        ]
