use Rattle.store_laws.proofs.StepsAnswered.{dropped_kept, dropped_removed}
use Rattle.store_laws.proofs.count_laws.dropping.Goals as goal

pub returns-clause-kept : goal.returns-clause-kept
returns-clause-kept c = dropped_kept

pub returns-clause-removed : goal.returns-clause-removed
returns-clause-removed c = dropped_removed
