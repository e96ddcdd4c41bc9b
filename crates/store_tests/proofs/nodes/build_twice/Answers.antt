use Rattle.std.proofs.Common.{[], ◌∷◌}
use Rattle.node_key.specs.Examples.{track_of_half}
use Rattle.node_key.specs.Stakes.{stake}
use Rattle.store_tests.proofs.nodes.build_twice.Goals as goal

pub build-requires-clause-owned : goal.build-requires-clause-owned
build-requires-clause-owned g c = ([], c.requires.owned)

pub build-requires-2-clause-owned : goal.build-requires-2-clause-owned
build-requires-2-clause-owned g c =
    (stake c.in_ok-root.root track_of_half ∷ [], c.in_ok-root.ensures.stakes [] c.requires.owned)

pub release_two-requires-clause-owned : goal.release_two-requires-clause-owned
release_two-requires-clause-owned g c = (
  track_of_half,
  track_of_half,
  c.in_ok-again.ensures.stakes (stake c.in_ok-root.root track_of_half ∷ [])
      (c.in_ok-root.ensures.stakes [] c.requires.owned),
)
