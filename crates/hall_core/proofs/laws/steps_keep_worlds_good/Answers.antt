use Rattle.hall_core.proofs.StepsGood.{steps-good}
use Rattle.hall_core.proofs.laws.steps_keep_worlds_good.Goals as goal

pub returns : goal.returns
returns c = steps-good
