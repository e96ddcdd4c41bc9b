use Rattle.profile_math.proofs.PathLaws.{paths-depth-first}
use Rattle.profile_math.proofs.laws.paths_in_order.Goals as goal

pub returns : goal.returns
returns c = paths-depth-first
