use Rattle.std.proofs.Common.{◌≡◌, None, List, subst, sym}
use Rattle.memo_core.specs.Memo.{MemoItem}
use Rattle.memo_rooms.proofs.KeptRooms.{nothing_kept}
use Rattle.memo_rooms.specs.Rooms.{kept_under}
use Rattle.memo_rooms.proofs.rooms.MemoRooms.new.Goals as goal

pub returns-clause-kept : goal.returns-clause-kept
returns-clause-kept c n kind = subst (λ (l : List (List MemoItem)). kept_under l n kind ≡ None)
    (sym c.in_ok-new_rooms.ensures) (nothing_kept n kind)
