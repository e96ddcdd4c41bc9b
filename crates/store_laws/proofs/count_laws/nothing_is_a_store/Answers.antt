use Rattle.store_laws.proofs.StepsFromNothing.{nothing}
use Rattle.store_laws.proofs.count_laws.nothing_is_a_store.Goals as goal

pub returns : goal.returns
returns c = nothing
