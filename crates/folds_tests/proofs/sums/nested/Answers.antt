use Rattle.std.proofs.Common.{rules}
use Rattle.folds_tests.proofs.TestProfiles.{nested_depth_first}
use Rattle.folds_tests.proofs.sums.nested.Goals as goal

pub returns-clause-ordered : goal.returns-clause-ordered
returns-clause-ordered c = nested_depth_first c.in_ok-from_slice.field-0 (search rules)
