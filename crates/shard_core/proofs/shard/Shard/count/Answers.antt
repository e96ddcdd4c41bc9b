use Rattle.std.proofs.Common.{sym, ap, ◌∙◌, is_some, true≢false}
use Rattle.shard_core.specs.Room.{Stored}
use Rattle.shard_core.proofs.Answering.{part_seen, unseen}
use Rattle.shard_core.proofs.shard.Shard.count.Goals as goal

pub unreachable-requires : goal.unreachable-requires
unreachable-requires c = true≢false (sym c.requires ∙ ap is_some
    (unseen c.self.inside.room c.self.inside.next c.self.inside.nodes
    c.args.self.now c.args.n c.self.view_is c.in-None.ensures.absent))

pub returns : goal.returns
returns c = part_seen (λ (s : Stored). s.count) c.self.inside.room c.self.inside.next c.self.inside.nodes
    c.args.self.now c.in-Some.place c.args.n c.in-Some.ensures.found.0 _ c.self.view_is c.place.ensures.apart
    c.in-Some.ensures.found.1 c.count.ensures.value
