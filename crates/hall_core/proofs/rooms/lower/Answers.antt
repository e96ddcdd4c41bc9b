use Rattle.std.proofs.Common.{◌∙◌, ◌%◌, refl}
use Rattle.list_lemmas.proofs.Positions.{changed_at}
use Rattle.node_key.specs.declared.limits.TheConstants.{STORE_ROOMS}
use Rattle.shard_core.specs.Interning.{Drops}
use Rattle.shard_core.specs.Room.{Room}
use Rattle.hall_core.proofs.rooms.lower.Goals as goal

pub returns : goal.returns
returns c =
    changed_at (λ (before after : Room). Drops before c.args.n c.drop_one-answer.result after)
    c.args.rooms.now c.into_vec-shards.result.items c.from_vec.result (c.args.n % STORE_ROOMS)
    (c.args.n % STORE_ROOMS) c.index_mut.result.now c.drop_one-answer.new.self
    (c.into_vec-shards.ensures ∙ c.replace.ensures.value) refl c.index_mut.ensures.value c.from_vec.ensures
    c.drop_one-answer.ensures.answer
