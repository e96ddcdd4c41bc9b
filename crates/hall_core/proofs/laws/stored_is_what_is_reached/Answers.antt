use Rattle.store_laws.proofs.ReachStakes.{reached}
use Rattle.hall_core.specs.World.{all_stakes}
use Rattle.hall_core.proofs.ReachStored.{reached-stored}
use Rattle.hall_core.proofs.laws.stored_is_what_is_reached.Goals as goal

pub returns-clause-stored : goal.returns-clause-stored
returns-clause-stored c w n s good at = reached w.state.shards (all_stakes w.seats) n s good.store at

pub returns-clause-reached : goal.returns-clause-reached
returns-clause-reached c w n good over = reached-stored w.state.shards (all_stakes w.seats) n good.store over
