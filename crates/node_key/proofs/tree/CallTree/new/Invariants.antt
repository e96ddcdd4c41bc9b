use Rattle.std.specs.Vec.Iter.{into_iter_items}
use Rattle.node_key.proofs.Placing.{Placing}
use Rattle.node_key.proofs.tree.CallTree.new.Given as goal

abbrev pub invariant-loop-item : goal.invariant-loop-item
invariant-loop-item l =
    Placing l.fn.start l.fn.end l.fn.items l.kids l.from l.highest (into_iter_items l.item-iterator)
