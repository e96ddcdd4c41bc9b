use Rattle.std.proofs.Common.{sym, ◌∙◌}
use Rattle.shard_core.proofs.Places.{length_seen, apart_seen}
use Rattle.shard_core.proofs.nodes.Nodes.len.Goals as goal

pub returns-clause-value : goal.returns-clause-value
returns-clause-value c = c.len.ensures.len
    ∙ sym (length_seen c.self.inside.keys.keys c.self.inside.counts.entries c.args.self.now c.self.view_is
    c.self.invariant.0)

pub returns-clause-apart : goal.returns-clause-apart
returns-clause-apart c = apart_seen c.self.inside.keys.keys c.self.inside.counts.entries c.args.self.now
    c.self.view_is
    c.self.invariant.0 c.len.ensures.unique
