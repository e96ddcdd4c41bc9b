use Rattle.std.proofs.Common.{◌≡◌, ◌-◌, ◌≤◌, ◌<◌, ℕ, List}
use Rattle.node_key.specs.Tree.{Tree}
use Rattle.node_key.specs.declared.key.Kid.{Kid}
use Rattle.profile_walk.specs.Crossing.{crossings_below}
use Rattle.profile_walk.specs.Summed.{IsAtRun, IsSummed, first}
use Rattle.profile_walk.proofs.steps.add_run.Given as goal

abbrev pub invariant-run : goal.invariant-run
invariant-run g l = record {
  more : l.fn.place.index < l.behind.index;
  within : l.behind.index ≤ l.key.len;
  summed : (t : Tree) (ns : List ℕ) (at : ℕ) (next : Kid)
      → IsAtRun g.P.NodeProfile.profile g.P.NodeProfile.whole t ns l.key at l.a l.b l.fn.place next l.own
      l.fn.sum
      → IsSummed g.P.NodeProfile.profile t at l.a l.b l.behind l.sum;
  across : (t : Tree) (ns : List ℕ) (at : ℕ) (next : Kid)
      → IsAtRun g.P.NodeProfile.profile g.P.NodeProfile.whole t ns l.key at l.a l.b l.fn.place next l.own
      l.fn.sum
      → crossings_below l.a l.b at (first l.behind.index t.kids)
      ≡ crossings_below l.a l.b at (first l.fn.place.index t.kids);
}

abbrev pub decreases-run : goal.decreases-run
decreases-run g l = l.key.len - l.behind.index
