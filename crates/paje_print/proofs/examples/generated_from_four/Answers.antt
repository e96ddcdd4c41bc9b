use Rattle.std.proofs.Common.{refl}
use Rattle.std.specs.Fmt.{digits}
use Rattle.paje_print.proofs.examples.generated_from_four.Goals as goal

pub returns-clause-functions : goal.returns-clause-functions
unfolding digits
returns-clause-functions c = refl
