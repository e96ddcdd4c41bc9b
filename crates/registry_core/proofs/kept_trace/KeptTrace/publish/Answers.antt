-- The slot was free, so the count of published tracks grows by one.
use Rattle.std.proofs.Common.{◌≡◌, ◌+◌, ◌∙◌, None, Some, ap, subst, sym}
use Rattle.std.specs.Prelude.{slice_get}
use Rattle.list_lemmas.proofs.Filters.{count-filled}
use Rattle.registry_core.specs.Trace.{Trace}
use Rattle.registry_core.proofs.kept_trace.KeptTrace.publish.Goals as goal

pub invariant_of-self : goal.invariant_of-self
invariant_of-self c =
    let free = subst (λ (t : Trace). slice_get t.tracks c.args.track ≡ Some None) (sym c.self.view_is)
    c.requires.open in
    ap (λ n. n + 1) c.self.invariant
    ∙ sym (count-filled c.self.inside.tracks.items c.args.track c.args.root free).0
