use Rattle.std.proofs.Common.{◌∙◌}
use Rattle.shard_core.proofs.Answering.{has_seen}
use Rattle.shard_core.proofs.shard.Shard.has.Goals as goal

pub returns : goal.returns
returns c = c.is_some.ensures ∙ has_seen c.self.inside.room c.self.inside.next c.self.inside.nodes
    c.args.self.now c.args.n c.place.result c.self.view_is c.place.ensures.apart c.place.ensures.found
    c.place.ensures.absent
