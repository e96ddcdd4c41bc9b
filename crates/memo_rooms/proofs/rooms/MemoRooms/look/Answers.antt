use Rattle.std.proofs.Common.{◌≡◌, List, slice_set, subst}
use Rattle.memo_core.specs.Memo.{MemoItem}
use Rattle.memo_rooms.proofs.KeptRooms.{look_stays, look_tells}
use Rattle.memo_rooms.specs.Rooms.{LookTells, kept_under}
use Rattle.memo_rooms.proofs.rooms.MemoRooms.look.Goals as goal

pub returns-clause-answer : goal.returns-clause-answer
returns-clause-answer c = subst (λ (old : List (List MemoItem)).
    LookTells (kept_under old c.args.n c.args.kind) c.look.result) c.self.view_is
    (look_tells c.self.inside.rooms.items c.args.n c.room_index.result c.index_mut.result.now c.self.invariant
    c.room_index.ensures.exact c.index_mut.ensures.value c.args.kind c.look.new.self c.look.result
    c.look.ensures.answer)

pub returns-clause-kept : goal.returns-clause-kept
returns-clause-kept c = subst (λ (old : List (List MemoItem)).
    kept_under (slice_set c.self.inside.rooms.items c.room_index.result c.look.new.self)
    ≡ kept_under old) c.self.view_is
    (look_stays c.self.inside.rooms.items c.args.n c.room_index.result c.index_mut.result.now c.self.invariant
    c.room_index.ensures.exact c.index_mut.ensures.value c.args.kind c.look.new.self c.look.result
    c.look.ensures.answer)
