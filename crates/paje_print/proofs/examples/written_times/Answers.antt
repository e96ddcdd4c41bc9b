use Rattle.std.proofs.Common.{refl}
use Rattle.std.specs.Fmt.{digits}
use Rattle.paje_print.proofs.examples.written_times.Goals as goal

pub returns-clause-none : goal.returns-clause-none
unfolding digits
returns-clause-none c = refl

pub returns-clause-least : goal.returns-clause-least
unfolding digits
returns-clause-least c = refl

pub returns-clause-second : goal.returns-clause-second
unfolding digits
returns-clause-second c = refl

pub returns-clause-greatest : goal.returns-clause-greatest
unfolding digits
returns-clause-greatest c = refl

pub returns-clause-padded : goal.returns-clause-padded
unfolding digits
returns-clause-padded c = refl

pub returns-clause-zeros : goal.returns-clause-zeros
unfolding digits
returns-clause-zeros c = refl

pub returns-clause-longer : goal.returns-clause-longer
unfolding digits
returns-clause-longer c = refl
