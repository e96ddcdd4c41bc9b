use Rattle.std.proofs.Common.{take}
use Rattle.node_key.specs.Tree.{nodes}
use Rattle.hall_core.proofs.ReachOneStake.{NoKidLeads}
use Rattle.hall_core.proofs.reach.+leads.Given as goal

abbrev pub decreases-leads : goal.decreases-leads
decreases-leads l = nodes l.tree.now

abbrev pub invariant-loop-i : goal.invariant-loop-i
invariant-loop-i l = NoKidLeads l.rooms l.tree l.target (take l.i l.key.kids)
