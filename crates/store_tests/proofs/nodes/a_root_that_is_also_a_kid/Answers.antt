use Rattle.store_tests.proofs.Owning.{owns_none}
use Rattle.store_tests.proofs.nodes.a_root_that_is_also_a_kid.Goals as goal

pub publish_a_kid-requires-clause-owned : goal.publish_a_kid-requires-clause-owned
publish_a_kid-requires-clause-owned g c = owns_none c.in_ok-store.store c.in_ok-store.ensures.stakes
