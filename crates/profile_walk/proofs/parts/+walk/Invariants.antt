use Rattle.std.proofs.Common.{◌-◌, ◌+◌, ◌*◌, ◌≤◌}
use Rattle.hall_trait.specs.Reach.{KeepsReach, Source}
use Rattle.node_key.specs.Tree.{Tree}
use Rattle.profile_walk.specs.Crossing.{crossings_below}
use Rattle.profile_walk.specs.Summed.{CanWalk, IsSummed, first}
use Rattle.profile_walk.specs.Walks.{FillsBeside, OnlyWalks, ReadsBeside}
use Rattle.profile_walk.proofs.parts.+walk.Given as goal

abbrev pub decreases-add_across : goal.decreases-add_across
decreases-add_across g l = 3 * l.key.now.height

abbrev pub decreases-add_next : goal.decreases-add_next
decreases-add_next g l = 3 * l.key.now.height + 1

abbrev pub decreases-add_unknown : goal.decreases-add_unknown
decreases-add_unknown g l = 3 * l.key.now.height

abbrev pub decreases-profile_of_key : goal.decreases-profile_of_key
decreases-profile_of_key g l = 3 * l.key.now.height + 2

abbrev pub invariant-profile_of_key-kids : goal.invariant-profile_of_key-kids
invariant-profile_of_key-kids g l = record {
  within : l.place.index ≤ l.key.len;
  summed : (by_what : Source) (t : Tree)
      → CanWalk (g.H.Hall.view l.fn.hall).seat (g.H.Hall.reaches l.fn.hall) by_what t l.key
      → IsSummed g.P.NodeProfile.profile t l.fn.at l.fn.a l.fn.b l.place l.sum;
  reads : (by_what : Source) (t : Tree)
      → CanWalk (g.H.Hall.view l.fn.hall).seat (g.H.Hall.reaches l.fn.hall) by_what t l.key
      → ReadsBeside (g.H.Hall.view l.fn.hall).account (g.H.Hall.view l.hall).account
      (crossings_below l.fn.a l.fn.b l.fn.at (first l.place.index t.kids));
  fills : FillsBeside (g.H.Hall.view l.fn.hall).account (g.H.Hall.view l.hall).account 0;
  rest : OnlyWalks (g.H.Hall.view l.fn.hall) (g.H.Hall.view l.hall);
  reach : KeepsReach (g.H.Hall.view l.hall).seat (g.H.Hall.reaches l.fn.hall) (g.H.Hall.reaches l.hall);
}

abbrev pub decreases-profile_of_key-kids : goal.decreases-profile_of_key-kids
decreases-profile_of_key-kids g l = l.key.len - l.place.index
