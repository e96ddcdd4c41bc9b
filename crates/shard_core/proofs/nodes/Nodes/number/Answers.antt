use Rattle.std.proofs.Common.{◌≡◌, ◌∙◌, Some, None}
use Rattle.shard_core.proofs.Listed.{here, number_here}
use Rattle.shard_core.proofs.nodes.Nodes.number.Goals as goal

pub unreachable-requires : goal.unreachable-requires
unreachable-requires c =
    let h = here c.self.inside.keys.keys c.self.inside.counts.entries c.args.self.now c.args.place
    c.self.view_is c.self.invariant.0 c.requires in
    let none : None ≡ Some h.pair = c.in-None.ensures.entry ∙ h.pair_at in cc

pub returns : goal.returns
returns c = number_here c.self.inside.keys.keys c.self.inside.counts.entries c.args.self.now c.args.place _
    (here c.self.inside.keys.keys c.self.inside.counts.entries c.args.self.now c.args.place
    c.self.view_is c.self.invariant.0 c.requires)
    c.in-Some.ensures.entry
