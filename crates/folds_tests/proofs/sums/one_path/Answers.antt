use Rattle.std.proofs.Common.{sym, subst}
use Rattle.profile_math.specs.PathSum.{IsDepthFirst}
use Rattle.folds_tests.proofs.TestProfiles.{one_depth_first}
use Rattle.folds_tests.proofs.sums.one_path.Goals as goal

pub returns-clause-ordered : goal.returns-clause-ordered
returns-clause-ordered c = subst IsDepthFirst (sym c.in_ok-from_slice.ensures)
    (one_depth_first c.args.only c.requires)
