use Rattle.std.proofs.Common.{refl}
use Rattle.std.specs.Fmt.{digits}
use Rattle.paje_read_back.proofs.examples.texts_of_lines.Goals as goal

pub returns-clause-time : goal.returns-clause-time
unfolding digits
returns-clause-time c = refl

pub returns-clause-destroyed : goal.returns-clause-destroyed
unfolding digits
returns-clause-destroyed c = refl

pub returns-clause-both_ends : goal.returns-clause-both_ends
unfolding digits
returns-clause-both_ends c = refl

pub returns-clause-start : goal.returns-clause-start
unfolding digits
returns-clause-start c = refl

pub returns-clause-end : goal.returns-clause-end
unfolding digits
returns-clause-end c = refl
