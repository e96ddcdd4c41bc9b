use Rattle.std.proofs.Common.{◌≡◌, ℕ, ◌==◌, ◌&&◌, not, if◌then◌else◌, List, filter, Option, None, option_map}
use Rattle.std.proofs.Common.{sym, ap, ap₂, ◌∙◌, subst}
use Rattle.std.specs.List.{find}
use Rattle.hall_history.specs.declared.asks.AskIds.{AskIds}
use Rattle.hall_history.specs.declared.asks.AskIds.TheVariants.{One, Two}
use Rattle.registry_core.specs.declared.answers.RegUnpin.{RegUnpin}
use Rattle.registry_core.specs.Asking.{AreUsed, after_unpin, unpinned, without_users}
use Rattle.registry_core.specs.Registry.{IsSoundRegistry, RegistryValue, has_id, open_count}
use Rattle.registry_core.specs.Trace.{Trace, is_over, roots_in}
use Rattle.registry_core.proofs.SoundAsks.{open_count-unpinned, sound-unpinned}
use Rattle.registry_core.proofs.Users.{kept_but_one, kept_but_two, second_freed, used_each}
use Rattle.registry_core.proofs.registry.Registry.unpin.Goals as goal

-- the roots of the trace of this id, if it is over
abbrev freed_of : ℕ → List Trace → Option (List ℕ)
freed_of id traces = option_map (λ (t : Trace). roots_in t.tracks)
    (find (λ t. has_id id t && is_over t) traces)

-- the traces but for the one of this id, if it is over
abbrev rest_of : ℕ → List Trace → List Trace
rest_of id traces = filter (λ t. not (has_id id t && is_over t)) traces

-- the traces that are left
abbrev left_of : RegistryValue → AskIds → List Trace
left_of r ids = filter (λ t. not (is_over t)) (without_users ids r.traces)

-- where one trace was named, the traces that are left
one_left : (r : RegistryValue) (a : ℕ) (ids : AskIds) (lowered left : List Trace) → IsSoundRegistry r
    → ids ≡ One a → lowered ≡ without_users ids r.traces → left ≡ rest_of a lowered → left ≡ left_of r ids
one_left r a ids lowered left sound is lower rest = rest
    ∙ ap (rest_of a) (lower ∙ ap (λ ids. without_users ids r.traces) is)
    ∙ kept_but_one r.place a r.traces sound.each ∙ ap (left_of r) (sym is)

-- where two were named
two_left : (r : RegistryValue) (a b : ℕ) (ids : AskIds) (lowered between left : List Trace)
    → IsSoundRegistry r → ids ≡ Two a b → lowered ≡ without_users ids r.traces
    → between ≡ rest_of a lowered → left ≡ rest_of b between → left ≡ left_of r ids
two_left r a b ids lowered between left sound is lower first rest = rest ∙ ap (rest_of b) (first
    ∙ ap (rest_of a) (lower ∙ ap (λ ids. without_users ids r.traces) is))
    ∙ kept_but_two r.place a b r.traces sound.each ∙ ap (left_of r) (sym is)

-- the registry is sound with the traces that are left, and as many of them are open
given_back : (r old : RegistryValue) (ids : AskIds) (left : List Trace) (count : ℕ) → r ≡ old
    → IsSoundRegistry r × (count ≡ open_count r.traces) → AreUsed old ids → left ≡ left_of r ids
    → IsSoundRegistry (record r { traces = left }) × (count ≡ open_count left)
given_back r old ids left count seen was used is =
    let in_use = subst (λ (r : RegistryValue). AreUsed r ids) (sym seen) used in
    subst (λ (ts : List Trace). IsSoundRegistry (record r { traces = ts }) × (count ≡ open_count ts)) (sym is)
    (sound-unpinned r ids was.0 in_use, was.1 ∙ sym (open_count-unpinned ids r.traces))

-- the registry afterwards
after : (r old : RegistryValue) (ids : AskIds) (left : List Trace) → r ≡ old → left ≡ left_of r ids
    → ◌≡◌ {A = RegistryValue} (record r { traces = left }) (after_unpin old ids)
after r old ids left seen is = ap (λ (ts : List Trace). record r { traces = ts }) is
    ∙ ap (λ (r : RegistryValue). after_unpin r ids) seen

-- what the call answers with these roots
abbrev answer : Option (List ℕ) → Option (List ℕ) → RegUnpin
answer first second = record { first = first; second = second }

-- where one trace was named, the roots that come free
one_freed : (r old : RegistryValue) (a : ℕ) (ids : AskIds) (lowered : List Trace) (first : Option (List ℕ))
    → r ≡ old → ids ≡ One a → lowered ≡ without_users ids r.traces → first ≡ freed_of a lowered
    → answer first None ≡ unpinned ids old.traces
one_freed r old a ids lowered first seen is lower freed = ap (λ f. answer f None) (freed
    ∙ ap (freed_of a) (lower ∙ ap (λ ids. without_users ids r.traces) is))
    ∙ ap₂ (λ ids (r : RegistryValue). unpinned ids r.traces) (sym is) seen

-- where two were named
two_freed : (r old : RegistryValue) (a b : ℕ) (ids : AskIds) (lowered between : List Trace)
    (first second : Option (List ℕ)) → r ≡ old → ids ≡ Two a b → lowered ≡ without_users ids r.traces
    → first ≡ freed_of a lowered → between ≡ rest_of a lowered → second ≡ freed_of b between
    → answer first second ≡ unpinned ids old.traces
two_freed r old a b ids lowered between first second seen is lower freed rest later =
    let lowers : lowered ≡ without_users (Two a b) r.traces =
    lower ∙ ap (λ ids. without_users ids r.traces) is in
    ap₂ answer (freed ∙ ap (freed_of a) lowers)
    (later ∙ ap (freed_of b) rest ∙ second_freed a b lowered
    ∙ ap (λ ts. if a == b then None else freed_of b ts) lowers)
    ∙ ap₂ (λ ids (r : RegistryValue). unpinned ids r.traces) (sym is) seen

pub lower_all-requires : goal.lower_all-requires
lower_all-requires c = used_each _ c.args.ids c.self.invariant.0
    (subst (λ (r : RegistryValue). AreUsed r c.args.ids) (sym c.self.view_is) c.requires)

pub invariant_of-self : goal.invariant_of-self
invariant_of-self c = given_back _ c.args.self.now c.args.ids _ _ c.self.view_is c.self.invariant c.requires
    (one_left _ _ _ _ _ c.self.invariant.0 c.in-One.is c.lower_all.ensures c.take_over.ensures.rest)

pub invariant_of-self-in-Two : goal.invariant_of-self-in-Two
invariant_of-self-in-Two c = given_back _ c.args.self.now c.args.ids _ _ c.self.view_is c.self.invariant
    c.requires (two_left _ _ _ _ _ _ _ c.self.invariant.0 c.in-Two.is c.lower_all.ensures
    c.take_over-first.ensures.rest c.take_over-second.ensures.rest)

pub returns-in-One-clause-roots : goal.returns-in-One-clause-roots
returns-in-One-clause-roots c = one_freed _ c.args.self.now _ c.args.ids _ _ c.self.view_is c.in-One.is
    c.lower_all.ensures c.take_over.ensures.roots

pub returns-in-One-clause-rest : goal.returns-in-One-clause-rest
returns-in-One-clause-rest c = after _ c.args.self.now c.args.ids _ c.self.view_is
    (one_left _ _ _ _ _ c.self.invariant.0 c.in-One.is c.lower_all.ensures c.take_over.ensures.rest)

pub returns-in-Two-clause-roots : goal.returns-in-Two-clause-roots
returns-in-Two-clause-roots c = two_freed _ c.args.self.now _ _ c.args.ids _ _ _ _ c.self.view_is c.in-Two.is
    c.lower_all.ensures c.take_over-first.ensures.roots c.take_over-first.ensures.rest
    c.take_over-second.ensures.roots

pub returns-in-Two-clause-rest : goal.returns-in-Two-clause-rest
returns-in-Two-clause-rest c = after _ c.args.self.now c.args.ids _ c.self.view_is
    (two_left _ _ _ _ _ _ _ c.self.invariant.0 c.in-Two.is c.lower_all.ensures
    c.take_over-first.ensures.rest c.take_over-second.ensures.rest)
