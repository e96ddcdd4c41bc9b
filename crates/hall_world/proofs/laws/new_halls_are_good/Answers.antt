use Rattle.hall_world.proofs.WorldsBegun.{new-good}
use Rattle.hall_world.proofs.laws.new_halls_are_good.Goals as goal

pub returns : goal.returns
returns c = new-good
