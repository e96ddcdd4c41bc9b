use Rattle.std.proofs.Common.{◌≡◌, ◌∙◌, Some, None}
use Rattle.shard_core.proofs.Listed.{here, key_here}
use Rattle.shard_core.proofs.nodes.Nodes.key.Goals as goal

pub unreachable-requires : goal.unreachable-requires
unreachable-requires c =
    let h = here c.self.inside.keys.keys c.self.inside.counts.entries c.args.self.now c.args.place
    c.self.view_is c.self.invariant.0 c.requires in
    let none : None ≡ Some h.key = c.in-None.ensures.key ∙ h.key_at in cc

pub returns : goal.returns
returns c = key_here c.self.inside.keys.keys c.self.inside.counts.entries c.args.self.now c.args.place _
    (here c.self.inside.keys.keys c.self.inside.counts.entries c.args.self.now c.args.place
    c.self.view_is c.self.invariant.0 c.requires)
    c.in-Some.ensures.key
