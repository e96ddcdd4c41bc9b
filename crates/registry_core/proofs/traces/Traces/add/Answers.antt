-- The map with the trace keeps it behind the others.
use Rattle.std.proofs.Common.{◌∙◌, ◌++◌, ◌∷◌, [], ap, nat_cmp}
use Rattle.std.specs.BTreeMap.{insert_entry}
use Rattle.registry_core.specs.Trace.{Trace}
use Rattle.registry_core.proofs.ById.{AreKept, AreKept-from, added_kept, values_kept, keys_kept}
use Rattle.registry_core.proofs.traces.Traces.add.Goals as goal
use Rattle.registry_core.proofs.traces.Traces.add.Goals.{In-Ok}

-- what the map keeps then
after : (c : In-Ok) → AreKept c.insert.new.self.entries (c.args.self.now ++ c.args.trace ∷ [])
after c = added_kept c.args.trace c.insert.new.self.entries
    (AreKept-from _ _ c.self.invariant.0 c.self.invariant.1 c.self.view_is) c.requires
    (c.in-Ok.ensures.entries ∙ ap (λ n. insert_entry nat_cmp c.self.inside.by_id.entries n c.args.trace)
    (ap (λ (t : Trace). t.id) c.trace.view_is)) c.insert.ensures.ordered

pub invariant_of-self : goal.invariant_of-self
invariant_of-self c = let k = after (goal.at.invariant_of-self c).In-Ok in (k.rising, keys_kept k)

pub returns-in-Ok-clause-added : goal.returns-in-Ok-clause-added
returns-in-Ok-clause-added c = values_kept (after (goal.at.returns-in-Ok-clause-added c).In-Ok)
