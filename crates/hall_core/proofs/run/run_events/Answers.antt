use Rattle.std.proofs.Common.{◌∙◌, ◌+◌, arith, sym, subst, get_or}
use Rattle.std.proofs.lemmas.Bool.{false≢true}
use Rattle.list_lemmas.proofs.Positions.{read_parts}
use Rattle.hall_core.proofs.RunsMore.{RunsSoFar, runs-more}
use Rattle.hall_core.proofs.run.run_events.Goals as goal

pub returns-then-not-allows-clause-run : goal.returns-then-not-allows-clause-run
returns-then-not-allows-clause-run c = (
  (c.loop-i-test.true, c.loop-i.answers.items, c.loop-i.invariant.0.done),
  (get_or c.args.list.now c.loop-i.i c.index-list-i.result).0,
  (get_or c.args.list.now c.loop-i.i c.index-list-i-in-loop-i.result).1,
  read_parts c.args.list.now c.loop-i.i c.index-list-i.result c.index-list-i-in-loop-i.result
      c.loop-i-test.true,
  λ may. false≢true (sym c.if-not-allows.true ∙ c.allows.ensures.1 may),
)

pub loop-i-preserved : goal.loop-i-preserved
loop-i-preserved c = (
  subst (λ answers. RunsSoFar c.args.w.now c.args.list.now (c.loop-i.i + 1) answers c.step.new.w)
      (sym c.push_reserved.ensures.items)
      (runs-more c.args.list.now c.loop-i.i c.loop-i.answers.items c.args.w.now c.loop-i.w c.step.new.w
      (get_or c.args.list.now c.loop-i.i c.index-list-i.result).0
      (get_or c.args.list.now c.loop-i.i c.index-list-i-in-loop-i.result).1 c.step.result c.loop-i.invariant.0
      (read_parts c.args.list.now c.loop-i.i c.index-list-i.result c.index-list-i-in-loop-i.result
      c.loop-i-test.true) (c.allows.ensures.0 c.if-not-allows.false) c.in_default-step.not-Memory
      c.step.ensures.step c.step.ensures.good),
  omega arith,
  omega arith,
)
