use Rattle.std.proofs.Common.{◌∙◌, ap, sym}
use Rattle.std.specs.FinMap as map
use Rattle.shard_core.specs.Room.{Room}
use Rattle.shard_core.proofs.RoomMaps.{len_seen}
use Rattle.shard_core.proofs.shard.Shard.len.Goals as goal

pub returns : goal.returns
returns c = c.len.ensures.value ∙ sym (len_seen c.self.inside.nodes c.len.ensures.apart)
    ∙ ap (λ (r : Room). map.len r.nodes) c.self.view_is
