use Rattle.std.proofs.Common.{refl}
use Rattle.std.specs.Fmt.{digits}
use Rattle.paje_print.proofs.examples.written_aliases.Goals as goal

pub returns-clause-container : goal.returns-clause-container
unfolding digits
returns-clause-container c = refl

pub returns-clause-state_type : goal.returns-clause-state_type
unfolding digits
returns-clause-state_type c = refl

pub returns-clause-link_type : goal.returns-clause-link_type
unfolding digits
returns-clause-link_type c = refl
