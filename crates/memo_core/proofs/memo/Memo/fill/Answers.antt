use Rattle.std.proofs.Common.{subst, List, arith}
use Rattle.memo_core.proofs.Answering.{IsAfterFill, after_put}
use Rattle.memo_core.specs.Cached.{memo_items}
use Rattle.memo_core.specs.Memo.{MemoItem}
use Rattle.memo_core.specs.Using.{FillsIn}
use Rattle.memo_core.proofs.memo.Memo.fill.Goals as goal

after : (c : goal.After-drop-2) → IsAfterFill c.self.inside.cache
    (record { number = c.args.n; kind = c.args.kind })
    (record { valid = c.self.invariant.0; cap = c.self.invariant.1 }) c.args.entry c.put.new.self
after c = after_put c.self.inside.cache (record { number = c.args.n; kind = c.args.kind })
    (record { valid = c.self.invariant.0; cap = c.self.invariant.1 }) c.tight_entry.result c.args.entry
    c.put.result c.put.new.self c.tight_entry.ensures c.requires
    (omega (arith, c.rows.ensures, c.if-rows-gt-MEMO_ROWS.false)) c.put.ensures.entries c.put.ensures.err
    c.put.ensures.succeeds

pub invariant_of-self-2 : goal.invariant_of-self-2
invariant_of-self-2 c = ((after c).room_again.valid, (after c).room_again.cap)

pub returns-clause-answer : goal.returns-clause-answer
returns-clause-answer c = subst (λ (l : List MemoItem). FillsIn l c.args.n c.args.kind c.args.entry
    (memo_items c.put.new.self.entries)) c.self.view_is (after c).answer

pub returns-clause-valid : goal.returns-clause-valid
returns-clause-valid c = (after c).room_again.valid
