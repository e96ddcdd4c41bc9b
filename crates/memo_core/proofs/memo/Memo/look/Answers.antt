use Rattle.std.proofs.Common.{sym, ap, ◌∙◌, refl, subst, Ok, Err, Some, List}
use Rattle.std.specs.Option.{option_copied}
use Rattle.memo_core.specs.Cached.{memo_items}
use Rattle.memo_core.specs.Memo.{MemoItem, entry_under}
use Rattle.memo_core.specs.Using.{LooksUp}
use Rattle.memo_core.proofs.Answering.{IsAfterLook, there, after_promote, no_copy}
use Rattle.memo_core.proofs.memo.Memo.look.Goals as goal

pub returns-in_default-clause-answer : goal.returns-in_default-clause-answer
returns-in_default-clause-answer c = (
  ap (λ (l : List MemoItem). entry_under l c.args.n c.args.kind) (sym c.self.view_is)
      ∙ there c.self.inside.cache (record { number = c.args.n; kind = c.args.kind })
      (record { valid = c.self.invariant.0; cap = c.self.invariant.1 })
      ∙ sym c.peek.ensures ∙ ap option_copied c.in_default.is,
  refl,
)

pub returns-in_default-copy_of-clause-answer : goal.returns-in_default-copy_of-clause-answer
returns-in_default-copy_of-clause-answer c = subst (λ (l : List MemoItem).
    LooksUp l c.args.n c.args.kind (Err (record {})) l)
    c.self.view_is (no_copy c.self.inside.cache (record { number = c.args.n; kind = c.args.kind })
    (record { valid = c.self.invariant.0; cap = c.self.invariant.1 }) c.in-Some.entry.now (record {})
    (ap option_copied (sym c.in-Some.is) ∙ c.peek.ensures))

after : (c : goal.After-promote) → IsAfterLook c.self.inside.cache
    (record { number = c.args.n; kind = c.args.kind })
    (record { valid = c.self.invariant.0; cap = c.self.invariant.1 }) c.in-Ok.copy c.promote.new.self
after c = after_promote c.self.inside.cache (record { number = c.args.n; kind = c.args.kind })
    (record { valid = c.self.invariant.0; cap = c.self.invariant.1 }) c.in-Some.entry.now c.in-Ok.copy
    c.promote.new.self (ap option_copied (sym c.in-Some.is) ∙ c.peek.ensures) c.in-Ok.ensures
    c.promote.ensures.entries

pub invariant_of-self : goal.invariant_of-self
invariant_of-self c = ((after c).room_again.valid, (after c).room_again.cap)

pub returns-clause-answer : goal.returns-clause-answer
returns-clause-answer c = subst (λ (l : List MemoItem). LooksUp l c.args.n c.args.kind
    (Ok (Some c.in-Ok.copy)) (memo_items c.promote.new.self.entries)) c.self.view_is (after c).answer

pub returns-clause-valid : goal.returns-clause-valid
returns-clause-valid c = (after c).room_again.valid
