-- The map without the trace keeps the others.
use Rattle.std.proofs.Common.{◌∙◌}
use Rattle.registry_core.proofs.ById.{AreKept, AreKept-from, keys_kept, lookup_kept, removed_kept}
use Rattle.registry_core.proofs.ById.{values_kept}
use Rattle.registry_core.specs.Registry.{without_trace}
use Rattle.registry_core.proofs.traces.Traces.take.Goals as goal
use Rattle.registry_core.proofs.traces.Traces.take.Goals.{After-remove}

-- what the map kept
before : (c : After-remove) → AreKept c.self.inside.by_id.entries c.args.self.now
before c = AreKept-from _ _ c.self.invariant.0 c.self.invariant.1 c.self.view_is

-- what the map keeps then
after : (c : After-remove) → AreKept c.remove.new.self.entries (without_trace c.args.id c.args.self.now)
after c = removed_kept c.args.id _ (before c) c.remove.ensures.entries c.remove.ensures.ordered

pub invariant_of-self : goal.invariant_of-self
invariant_of-self c = (c.remove.ensures.ordered, keys_kept (after c))

pub returns-clause-value : goal.returns-clause-value
returns-clause-value c = c.remove.ensures.value ∙ lookup_kept c.args.id (before c)

pub returns-clause-rest : goal.returns-clause-rest
returns-clause-rest c = values_kept (after c)
