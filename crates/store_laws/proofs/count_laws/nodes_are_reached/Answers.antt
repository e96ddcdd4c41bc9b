use Rattle.store_laws.proofs.ReachStakes.{reached}
use Rattle.store_laws.proofs.count_laws.nodes_are_reached.Goals as goal

pub returns : goal.returns
returns c = reached
