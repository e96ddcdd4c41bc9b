use Rattle.std.proofs.Common.{drop, reverse}
use Rattle.call_tree.proofs.Passing.{Passing}
use Rattle.call_tree.proofs.building.tree_of.Given as goal

abbrev pub invariant-loop-event : goal.invariant-loop-event
invariant-loop-event l = Passing l.s (reverse l.around.items) l.innermost (drop l.event-index l.s.events)
