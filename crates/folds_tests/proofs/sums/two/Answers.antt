use Rattle.std.proofs.Common.{rules}
use Rattle.folds_tests.proofs.TestProfiles.{two_rise}
use Rattle.folds_tests.proofs.sums.two.Goals as goal

pub returns-clause-ordered : goal.returns-clause-ordered
returns-clause-ordered c = two_rise c.in_ok-from_slice.field-0 (search rules)
