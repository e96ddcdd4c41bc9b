-- The map's trace of an id is the first of that id.
use Rattle.std.proofs.Common.{◌∙◌}
use Rattle.registry_core.proofs.ById.{AreKept-from, lookup_kept}
use Rattle.registry_core.proofs.traces.Traces.find.Goals as goal

pub returns : goal.returns
returns c = c.get.ensures.value
    ∙ lookup_kept c.args.id (AreKept-from _ _ c.self.invariant.0 c.self.invariant.1 c.self.view_is)
