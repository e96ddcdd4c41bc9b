use Rattle.std.proofs.Common.{◌∙◌}
use Rattle.list_lemmas.proofs.Positions.{changed_at}
use Rattle.node_key.specs.Rooms.{room}
use Rattle.shard_core.specs.Interning.{Interns}
use Rattle.shard_core.specs.Room.{Room}
use Rattle.hall_core.proofs.rooms.enter.Goals as goal

pub returns : goal.returns
returns c =
    changed_at (λ (before after : Room). Interns before c.args.key c.know_or_add-answer.result after)
    c.args.rooms.now c.into_vec-shards.result.items c.from_vec.result (room c.args.key) c.room_of_key.result
    c.index_mut.result.now c.know_or_add-answer.new.self (c.into_vec-shards.ensures ∙ c.replace.ensures.value)
    c.room_of_key.ensures.exact c.index_mut.ensures.value c.from_vec.ensures
    c.know_or_add-answer.ensures.answer
