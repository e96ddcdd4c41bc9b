use Rattle.store_tests.proofs.Owning.{owns_none}
use Rattle.store_tests.proofs.nodes.a_track_is_three_nodes_and_goes.Goals as goal

pub build_twice-requires-clause-owned : goal.build_twice-requires-clause-owned
build_twice-requires-clause-owned g c = owns_none c.in_ok-store.store c.in_ok-store.ensures.stakes
