use Rattle.std.proofs.Common.{List, slice_set, subst}
use Rattle.memo_core.specs.Memo.{MemoItem}
use Rattle.memo_rooms.proofs.KeptRooms.{fill_keeps}
use Rattle.memo_rooms.specs.Rooms.{IsKeptAfter, kept_under}
use Rattle.memo_rooms.proofs.rooms.MemoRooms.fill.Goals as goal

pub returns-clause-kept : goal.returns-clause-kept
returns-clause-kept c = subst (λ (old : List (List MemoItem)).
    IsKeptAfter (kept_under old) c.args.n c.args.kind c.args.entry
    (kept_under (slice_set c.self.inside.rooms.items c.room_index.result c.fill.new.self))) c.self.view_is
    (fill_keeps c.self.inside.rooms.items c.args.n c.room_index.result c.index_mut.result.now c.self.invariant
    c.room_index.ensures.exact c.index_mut.ensures.value c.args.kind c.args.entry c.fill.new.self
    c.fill.ensures.answer)
