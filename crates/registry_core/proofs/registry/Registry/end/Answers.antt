-- The registry stays sound with a trace ended, and one trace less is open.
use Rattle.std.proofs.Common.{◌≡◌, ℕ, ◌-◌, ◌<◌, ◌≤◌, Some, arith, sym, ap, subst, ◌∙◌, refl}
use Rattle.registry_core.specs.contracts.registry.Registry as registry
use Rattle.registry_core.specs.Registry.{IsSoundRegistry, RegistryValue, kept_trace}
use Rattle.registry_core.specs.Trace.{Trace, roots_in}
use Rattle.registry_core.proofs.SoundAsks.{few_tracks}
use Rattle.registry_core.proofs.SoundLoads.{HasEnd, MayEnd, count-some, is-ended, is-kept}
use Rattle.registry_core.proofs.SoundLoads.{kept-promise, may-end, still-ended, still-kept}
use Rattle.registry_core.proofs.registry.Registry.end.Goals as goal

-- what is required of the value gives the fields' trace an end
ends : (r s : RegistryValue) (id : ℕ) (t : Trace) → r ≡ s → IsSoundRegistry r
    → kept_trace r.traces id ≡ Some t → MayEnd s id → HasEnd r t
ends r s id t is sound kept may = may-end r id t sound kept
    (subst (λ (q : RegistryValue). MayEnd q id) (sym is) may)

pub promise-promise-requires : goal.promise-promise-requires
promise-promise-requires c = few_tracks _ c.args.id _ c.self.invariant.0 (sym c.in-Some.ensures)

pub overflow_sub-self : goal.overflow_sub-self
overflow_sub-self c =
    let most = kept-promise _ c.args.id _ c.self.invariant.0 (sym c.in-Some.ensures) in
    omega (arith, most, c.promise-promise.ensures)

pub overflow_sub-self-2 : goal.overflow_sub-self-2
overflow_sub-self-2 c =
    let kept = sym c.in-Some.ensures in
    let end = ends _ _ c.args.id _ c.self.view_is c.self.invariant.0 kept c.requires in
    let least = count-some _ c.args.id _ c.self.invariant.0 kept end.0 in
    omega (arith, least, c.self.invariant.1)

pub invariant_of-self : goal.invariant_of-self
invariant_of-self c =
    let kept = sym c.in-Some.ensures in
    let end = ends _ _ c.args.id _ c.self.view_is c.self.invariant.0 kept c.requires in
    let used = subst (λ (t : Trace). 0 < t.users) c.trace.view_is c.if-is_used.true in
    let still = still-kept (registry.the_view c.self.inside) c.args.id c.in-Some.trace.now kept
    c.promise-promise.result c.end.new.self c.promise-promise.ensures c.self.invariant.0 end used
    c.end.ensures in
    (still.0, ap (λ n. n - 1) c.self.invariant.1 ∙ still.1)

pub returns-then-is_used : goal.returns-then-is_used
returns-then-is_used c =
    let kept = sym c.in-Some.ensures in
    let used = subst (λ (t : Trace). 0 < t.users) c.trace.view_is c.if-is_used.true in
    let is = is-kept (registry.the_view c.self.inside) c.args.id c.in-Some.trace.now kept
    c.promise-promise.result c.end.new.self c.promise-promise.ensures c.end.ensures in
    rw (← c.self.view_is) (c.in-Some.trace.now, kept, used, refl, is)

pub invariant_of-self-2 : goal.invariant_of-self-2
invariant_of-self-2 c =
    let kept = sym c.in-Some.ensures in
    let end = ends _ _ c.args.id _ c.self.view_is c.self.invariant.0 kept c.requires in
    let still = still-ended (registry.the_view c.self.inside) c.args.id c.in-Some.trace.now kept
    c.promise-promise.result c.take.new.self c.promise-promise.ensures c.self.invariant.0 end
    c.take.ensures.rest in
    (still.0, ap (λ n. n - 1) c.self.invariant.1 ∙ still.1)

pub returns : goal.returns
returns c =
    let kept = sym c.in-Some.ensures in
    let users = subst (λ (t : Trace). t.users ≤ 0) c.trace.view_is c.if-is_used.false in
    let both : Some c.in-Some-take.trace ≡ Some c.in-Some.trace.now = c.in-Some-take.ensures.value ∙ kept in
    let same : c.in-Some-take.trace ≡ c.in-Some.trace.now = cc in
    let roots = c.into_roots.ensures ∙ ap (λ (t : Trace). roots_in t.tracks) same in
    let is = is-ended (registry.the_view c.self.inside) c.args.id c.in-Some.trace.now kept
    c.promise-promise.result c.take.new.self c.promise-promise.ensures c.take.ensures.rest in
    rw (← c.self.view_is) (c.in-Some.trace.now, kept, omega (arith, users), refl, roots, is)
