use Rattle.std.proofs.Common.{refl}
use Rattle.std.specs.Fmt.{digits}
use Rattle.paje_read_back.proofs.examples.lines_of_links_and_ends.Goals as goal

pub returns-clause-links : goal.returns-clause-links
unfolding digits
returns-clause-links c = refl

pub returns-clause-ends : goal.returns-clause-ends
unfolding digits
returns-clause-ends c = refl
