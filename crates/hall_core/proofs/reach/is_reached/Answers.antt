use Rattle.std.proofs.Common.{arith, refl, subst, sym, true≢false}
use Rattle.std.proofs.lemmas.List.{take_all}
use Rattle.hall_core.proofs.ReachOneStake.{NoneReaches, reached_by_all, reached_by_none}
use Rattle.hall_core.proofs.reach.is_reached.Goals as goal

pub returns-then-leads : goal.returns-then-leads
returns-then-leads c = (
  λ _. reached_by_all c.args.rooms.now c.args.stakes.now c.x-item.result c.args.target
      (c.loop-x.x-index, omega arith, sym c.x-item.is) (c.leads.ensures.0 c.if-leads.true),
  λ _. refl,
)

pub returns : goal.returns
returns c =
    let none = subst (NoneReaches c.args.rooms.now c.args.target)
    (take_all c.loop-x.x-index c.args.stakes.now (omega arith)) c.loop-x.invariant in (
      λ is. absurd (true≢false (sym is)),
      λ reaches. absurd (reached_by_none c.args.rooms.now c.args.stakes.now c.args.target none reaches),
    )
