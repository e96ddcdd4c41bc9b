use Rattle.std.proofs.Common.{◌<◌, List, length, arith, sym, ap, subst, All}
use Rattle.node_key.specs.Tree.{height}
use Rattle.node_key.specs.Items.{FitBetween}
use Rattle.node_key.specs.declared.item.Item.{Item}
use Rattle.node_key.specs.declared.limits.TheConstants.{HEIGHT_BOUND}
use Rattle.trace_base.specs.declared.limits.TheConstants.{MAX_TIME}
use Rattle.call_tree.proofs.Fits.{FitBetween-lower, FitBetween-upper, FitBetween-bound}
use Rattle.call_tree.proofs.Fits.{length-bound-le}
use Rattle.call_tree.proofs.building.close.Goals as goal
use Rattle.call_tree.proofs.Fits.{low_bound}

pub split-requires-clause-placed : goal.split-requires-clause-placed
split-requires-clause-placed c =
    FitBetween-lower 0 c.args.innermost.start MAX_TIME c.args.innermost.items (omega arith)
    (FitBetween-upper c.args.innermost.start c.args.stop MAX_TIME c.args.innermost.items c.requires.in_time
    c.requires.placed)

pub new-requires-clause-few : goal.new-requires-clause-few
new-requires-clause-few c =
    omega (
      arith,
      ap length c.in_ok-bounded.ensures,
      length-bound-le (length c.args.innermost.items) c.args.innermost.items (omega arith),
    )

pub new-requires-clause-within : goal.new-requires-clause-within
new-requires-clause-within c =
    subst (λ (l : List Item). FitBetween c.args.innermost.start c.args.stop l) (sym c.in_ok-bounded.ensures)
    (FitBetween-bound c.args.innermost.start c.args.stop c.args.innermost.items c.requires.placed)

pub new-requires-clause-low : goal.new-requires-clause-low
new-requires-clause-low c =
    subst (λ (l : List Item). All (λ i. height i.tree < HEIGHT_BOUND) l) (sym c.in_ok-bounded.ensures)
    (low_bound c.args.innermost.items c.requires.low c.requires.few)
