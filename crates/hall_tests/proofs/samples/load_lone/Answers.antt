use Rattle.std.proofs.Common.{refl}
use Rattle.test_keys.specs.Examples.{track_of_lone_main}
use Rattle.hall_tests.proofs.SampleTracks.{load_alone, lone_fits, one_call, one_call_tree}
use Rattle.hall_tests.proofs.samples.load_lone.Goals as goal

pub end_load-requires : goal.end_load-requires
end_load-requires g c =
    load_alone one_call track_of_lone_main _ _ _ c.in_ok-pass.pass c.build_lone-root.result one_call_tree
    lone_fits refl c.requires c.in_ok-pass.ensures c.build_lone-root.ensures
