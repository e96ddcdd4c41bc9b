use Rattle.std.proofs.Common.{[], ◌∷◌}
use Rattle.node_key.specs.Examples.{tenth}
use Rattle.node_key.specs.Stakes.{stake}
use Rattle.store_tests.proofs.nodes.give_last.Goals as goal

pub release_two-requires-clause-owned : goal.release_two-requires-clause-owned
release_two-requires-clause-owned g c = (
  tenth,
  tenth,
  c.in_ok-again.ensures.stakes (stake c.in_ok-f.f tenth ∷ []) (c.in_ok-f.ensures.stakes [] c.requires.owned),
)
