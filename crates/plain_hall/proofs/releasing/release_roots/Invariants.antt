use Rattle.std.proofs.Common.{◌≡◌, ◌++◌, List, length}
use Rattle.node_key.specs.declared.stake.Stake.{Stake}
use Rattle.node_store.specs.Given.{ever}
use Rattle.node_store.specs.Kept.{AreKept, KeepsFor, NextNeverFalls}
use Rattle.plain_hall.specs.Rooted.{stakes_under}
use Rattle.plain_hall.proofs.releasing.release_roots.Given as goal

abbrev pub invariant-loop-root : goal.invariant-loop-root
invariant-loop-root l = record {
  given : l.nodes.given ≡ l.fn.nodes.given;
  store : AreKept l.nodes;
  roots : (rest : List Stake) → KeepsFor l.fn.nodes (stakes_under (ever l.fn.nodes.given) l.fn.roots ++ rest)
      → KeepsFor l.nodes (stakes_under (ever l.fn.nodes.given) l.roots ++ rest);
  next : NextNeverFalls l.fn.nodes l.nodes;
}

abbrev pub decreases-loop-root : goal.decreases-loop-root
decreases-loop-root l = length l.roots
