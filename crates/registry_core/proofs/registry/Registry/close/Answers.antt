-- A trace that is open is kept, and ends where it isn't loading.
use Rattle.std.proofs.Common.{◌≡◌, ℕ, true, false, Some, arith}
use Rattle.std.proofs.Common.{sym, ap, subst, ◌∙◌}
use Rattle.std.specs.Prelude.{is_some}
use Rattle.registry_core.specs.Closing.{IsSealedTrace}
use Rattle.registry_core.specs.Registry.{IsSoundRegistry, RegistryValue, kept_trace, open_trace}
use Rattle.registry_core.specs.Trace.{Trace}
use Rattle.registry_core.proofs.OneTrace.{kept-some, open-is-kept}
use Rattle.registry_core.proofs.registry.Registry.close.Goals as goal

-- the trace that is kept is sealed, where it is open and isn't loading
is-sealed : (r : RegistryValue) (id : ℕ) (t u : Trace) → IsSoundRegistry r → kept_trace r.traces id ≡ Some t
    → true ≡ is_some (open_trace r.traces id) → t.loading ≡ false → kept_trace r.traces id ≡ Some u
    → IsSealedTrace r id u
is-sealed r id t u sound kept some loading found =
    let both : Some t ≡ Some u = sym kept ∙ found in
    let same : t ≡ u = cc in
    record {
      is_open = (open-is-kept r.traces id u sound.rising found some).0;
      sealed = sym (ap (λ (t : Trace). t.loading) same) ∙ loading;
    }

pub kept-requires : goal.kept-requires
kept-requires c = kept-some _ c.args.id c.if-not-is_open.ensures

pub returns-then-kept : goal.returns-then-kept
returns-then-kept c =
    let sound = subst IsSoundRegistry c.self.view_is c.self.invariant.0 in
    let is = open-is-kept _ c.args.id _ sound.rising c.kept.ensures c.if-not-is_open.ensures in (
      omega (arith, c.taken-taken.ensures, c.if-taken-eq-MAX_PLACES.false),
      c.kept.result.now,
      is.0,
      sym (ap (λ (t : Trace). t.loading) c.behind-self.view_is) ∙ c.if-kept.true,
      c.enter-then-kept.ensures.place,
      c.enter-then-kept.ensures.rest,
    )

pub end-requires : goal.end-requires
end-requires c =
    let sound = subst IsSoundRegistry c.self.view_is c.self.invariant.0 in
    let is = open-is-kept _ c.args.id _ sound.rising c.kept.ensures c.if-not-is_open.ensures in (
      c.kept.result.now,
      c.kept.ensures,
      λ sealed. (is.1, omega (arith, c.taken-taken.ensures, c.if-taken-eq-MAX_PLACES.false)),
    )

pub returns-in-Ended : goal.returns-in-Ended
returns-in-Ended c =
    let sound = subst IsSoundRegistry c.self.view_is c.self.invariant.0 in
    let end = c.in-Ended.ensures in
    let loading = sym (ap (λ (t : Trace). t.loading) c.behind-self.view_is) ∙ c.if-kept.false in (
      omega (arith, c.taken-taken.ensures, c.if-taken-eq-MAX_PLACES.false),
      end.0,
      is-sealed _ c.args.id _ end.0 sound c.kept.ensures c.if-not-is_open.ensures loading end.1,
      end.2,
      end.3,
      end.4,
      end.5,
    )

pub returns-in-Kept : goal.returns-in-Kept
returns-in-Kept c =
    let sound = subst IsSoundRegistry c.self.view_is c.self.invariant.0 in
    let end = c.in-Kept.ensures in
    let loading = sym (ap (λ (t : Trace). t.loading) c.behind-self.view_is) ∙ c.if-kept.false in (
      omega (arith, c.taken-taken.ensures, c.if-taken-eq-MAX_PLACES.false),
      end.0,
      is-sealed _ c.args.id _ end.0 sound c.kept.ensures c.if-not-is_open.ensures loading end.1,
      end.2,
      end.3,
      end.4,
    )
