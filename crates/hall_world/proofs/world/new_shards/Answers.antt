use Rattle.std.proofs.Common.{◌∙◌, ◌++◌, ◌∷◌, [], ap₂, sym, arith}
use Rattle.std.proofs.lemmas.List.FromFn.{map-range_with_len_more}
use Rattle.store_laws.specs.Store.{empty_room}
use Rattle.hall_world.proofs.world.new_shards.Goals as goal

pub loop-room-preserved : goal.loop-room-preserved
loop-room-preserved c =
    let at = c.loop-room.room in
    let more = map-range_with_len_more (empty_room c.args.first) 0 at at (omega arith) in
    c.in_ok-push.ensures.ok ∙ ap₂ (λ xs r. xs ++ r ∷ []) c.loop-room.invariant c.starting_at.ensures
    ∙ sym more
