use Rattle.std.proofs.Common.{refl}
use Rattle.std.specs.Fmt.{digits}
use Rattle.paje_print.proofs.examples.generated_from_sixteen.Goals as goal

pub returns-clause-functions : goal.returns-clause-functions
unfolding digits
returns-clause-functions c = refl

pub returns-clause-links : goal.returns-clause-links
unfolding digits
returns-clause-links c = refl
