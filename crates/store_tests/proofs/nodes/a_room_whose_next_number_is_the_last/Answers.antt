use Rattle.store_tests.proofs.Owning.{owns_none}
use Rattle.store_tests.proofs.nodes.a_room_whose_next_number_is_the_last.Goals as goal

pub give_last-requires-clause-owned : goal.give_last-requires-clause-owned
give_last-requires-clause-owned g c = owns_none c.in_ok-store.store c.in_ok-store.ensures.stakes
