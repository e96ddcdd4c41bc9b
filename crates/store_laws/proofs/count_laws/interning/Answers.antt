use Rattle.store_laws.proofs.StepsAnswered.{interned_known, interned_new}
use Rattle.store_laws.proofs.count_laws.interning.Goals as goal

pub returns-clause-new : goal.returns-clause-new
returns-clause-new c = interned_new

pub returns-clause-known : goal.returns-clause-known
returns-clause-known c = interned_known
