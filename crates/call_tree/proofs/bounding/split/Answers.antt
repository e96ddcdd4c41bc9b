use Rattle.std.proofs.Common.{List, length, arith, sym, ap, subst, ◌∙◌}
use Rattle.node_key.specs.declared.item.Item.{Item}
use Rattle.call_tree.proofs.BoundedLists.{Bounding, Bounding-start, Bounding-more}
use Rattle.call_tree.proofs.Chunks.{length-grouped, bound-few}
use Rattle.call_tree.proofs.bounding.split.Goals as goal

pub levels-init : goal.levels-init
levels-init c = record {
  bounding = Bounding-start c.args.items c.requires.placed c.requires.low
      (omega (arith, c.len-number.ensures, c.len-number.type_inv));
  number = c.len-number.ensures;
}

pub levels-smaller : goal.levels-smaller
levels-smaller c =
    omega (
      arith,
      c.len-number-in-levels.ensures,
      ap length c.in_ok-bounded.ensures,
      length-grouped c.levels.bounded,
      c.levels.invariant.number,
    )

pub levels-preserved : goal.levels-preserved
levels-preserved c = record {
  bounding = subst (λ (l : List Item). Bounding c.args.items l) (sym c.in_ok-bounded.ensures)
      (Bounding-more c.args.items c.levels.bounded (omega (arith, c.levels.invariant.number))
      c.levels.invariant.bounding);
  number = c.len-number-in-levels.ensures;
}

pub returns : goal.returns
returns c =
    sym (bound-few c.levels.bounded (omega (arith, c.levels.invariant.number))) ∙
    c.levels.invariant.bounding.same
