use Rattle.std.proofs.Common.{ap, arith}
use Rattle.memo_rooms.proofs.WholeKept.{of_trees_empty}
use Rattle.memo_rooms.specs.Rooms.{kept_under}
use Rattle.node_key.specs.Stands.{Stands}
use Rattle.node_store.specs.Given.{ever}
use Rattle.plain_hall.specs.KeptHistory.{entries_owed}
use Rattle.plain_hall.proofs.WholeAfter.{whole_none}
use Rattle.plain_hall.proofs.hall.PlainHall.starting_at.Goals as goal

pub invariant_of-result : goal.invariant_of-result
invariant_of-result c = record {
  whole = whole_none _ _ _ c.new-2.ensures c.in_ok-registry.ensures c.in_ok-nodes.ensures.sound
      c.in_ok-nodes.ensures.kept;
  space = omega (arith, ap entries_owed c.in_ok-registry.ensures);
  held = λ pin none. absurd cc;
  profiles = of_trees_empty (Stands (ever c.in_ok-nodes.nodes.given)) (kept_under c.in_ok-memos.memos)
      c.in_ok-memos.ensures.kept;
}
