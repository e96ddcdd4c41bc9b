-- The trace of an id is open if it is kept and hasn't ended.
use Rattle.std.proofs.Common.{◌≡◌, Bool, true, false, not, cond, None, Some, sym, ap, subst, ◌∙◌, refl}
use Rattle.std.specs.Prelude.{is_some}
use Rattle.list_lemmas.proofs.Found.{find_stricter}
use Rattle.registry_core.specs.Registry.{RegistryValue, has_id, is_open_trace, open_trace}
use Rattle.registry_core.specs.Trace.{Trace}
use Rattle.registry_core.proofs.OneTrace.{open-kept}
use Rattle.registry_core.proofs.registry.Registry.is_open.Goals as goal

-- an option that a test gives is there where the test passes
given : (b : Bool) (t : Trace) → b ≡ is_some (cond b (Some t) None)
given true t = refl
given false t = refl

pub returns-in-Some : goal.returns-in-Some
returns-in-Some c =
    let at = open-kept _ c.args.id c.in-Some.trace.now c.self.invariant.0.rising (sym c.in-Some.ensures) in
    subst (λ (r : RegistryValue). not c.trace.inside.closing ≡ is_some (open_trace r.traces c.args.id))
    c.self.view_is (ap (λ (t : Trace). not t.closing) c.trace.view_is ∙ given _ _ ∙ sym (ap is_some at))

pub returns-in-None : goal.returns-in-None
returns-in-None c =
    subst (λ (r : RegistryValue). false ≡ is_some (open_trace r.traces c.args.id)) c.self.view_is
    (sym (ap is_some (find_stricter (has_id c.args.id) is_open_trace _ (sym c.in-None.ensures))))
