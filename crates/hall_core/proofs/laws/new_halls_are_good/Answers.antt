use Rattle.hall_core.proofs.GoodWorlds.{new-good}
use Rattle.hall_core.proofs.laws.new_halls_are_good.Goals as goal

pub returns : goal.returns
returns c = new-good
