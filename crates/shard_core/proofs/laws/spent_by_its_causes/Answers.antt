use Rattle.shard_core.proofs.RoomLaws as room_laws
use Rattle.shard_core.proofs.laws.spent_by_its_causes.Goals as goal

pub returns : goal.returns
returns c = room_laws.spent_by_its_causes
