use Rattle.shard_core.proofs.RoomLaws.{interns_never_lower_next, drops_keep_next}
use Rattle.shard_core.proofs.laws.next_never_falls.Goals as goal

pub returns-clause-interns : goal.returns-clause-interns
returns-clause-interns c = interns_never_lower_next

pub returns-clause-drops : goal.returns-clause-drops
returns-clause-drops c = drops_keep_next
