use Rattle.shard_core.proofs.RoomLaws.{new_numbers_are_fresh, new_numbers_rise}
use Rattle.shard_core.proofs.laws.numbers_given_once.Goals as goal

pub returns-clause-fresh : goal.returns-clause-fresh
returns-clause-fresh c = new_numbers_are_fresh

pub returns-clause-rise : goal.returns-clause-rise
returns-clause-rise c = new_numbers_rise
