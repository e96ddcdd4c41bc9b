use Rattle.std.proofs.Common.{◌+◌, ◌-◌, ◌≤◌, List, arith, sym, ap, subst, ◌∙◌, All}
use Rattle.std.proofs.lemmas.List.Elements.{All-push}
use Rattle.node_key.specs.Tree.{Tree, height}
use Rattle.node_key.specs.Items.{FitBetween, node}
use Rattle.node_key.specs.declared.item.Item.{Item}
use Rattle.node_key.specs.declared.limits.TheConstants.{MAX_HEIGHT, MAX_KIDS}
use Rattle.trace_base.specs.declared.limits.TheConstants.{MAX_TIME}
use Rattle.call_tree.proofs.Fits.{FitBetween-push, FitBetween-upper}
use Rattle.store_tests.proofs.trees.in_a_row.Goals as goal

pub loop-at-preserved : goal.loop-at-preserved
loop-at-preserved c =
    let at = c.loop-at.at in
    let i : Item = record { at = at; tree = c.in_ok-tree.tree } in
    let dur = ap (λ (t : Tree). t.dur) c.in_ok-tree.ensures in
    let high = ap (λ (t : Tree). height t) c.in_ok-tree.ensures
    ∙ ap (λ (is : List Item). height (node 2 at at is)) c.new.ensures in
    record {
      placed = subst (λ (l : List Item). FitBetween 0 (at + 1) l) (sym c.in_ok-push.ensures.ok)
          (FitBetween-push 0 at (at + 1) c.loop-at.items i c.loop-at.invariant.placed (omega arith)
          (omega (arith, dur)));
      low = subst (λ (l : List Item). All (λ i. height i.tree ≤ MAX_HEIGHT - MAX_KIDS) l)
          (sym c.in_ok-push.ensures.ok)
          (All-push (λ (i : Item). height i.tree ≤ MAX_HEIGHT - MAX_KIDS) c.loop-at.items i
          c.loop-at.invariant.low (omega (arith, high)));
    }

pub returns-clause-placed : goal.returns-clause-placed
returns-clause-placed c =
    FitBetween-upper 0 c.loop-at.at MAX_TIME c.loop-at.items (omega arith) c.loop-at.invariant.placed
