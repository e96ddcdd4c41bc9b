use Rattle.hall_tests.proofs.SampleProfiles.{flat_of_f, paths_of_f}
use Rattle.hall_tests.proofs.looking.profile_of_f.Goals as goal

pub returns-in_ok-rows-in-Flat : goal.returns-in_ok-rows-in-Flat
returns-in_ok-rows-in-Flat c = flat_of_f c.in_ok-rows-in-Flat.rows c.args.kind c.in_ok-rows-in-Flat.ensures c.in-Flat.is

pub returns-in_ok-rows-in-Paths : goal.returns-in_ok-rows-in-Paths
returns-in_ok-rows-in-Paths c =
    paths_of_f c.in_ok-rows-in-Paths.rows c.args.kind c.in_ok-rows-in-Paths.ensures c.in-Paths.is
