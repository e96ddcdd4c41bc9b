use Rattle.registry_core.proofs.ToldStays.{told-kept}
use Rattle.registry_core.proofs.staying_laws.told_roots_are_kept.Goals as goal

pub returns : goal.returns
returns c r id place track start root t kept is = told-kept r.traces id place track start root t kept is
