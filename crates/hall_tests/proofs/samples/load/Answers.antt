use Rattle.std.proofs.Common.{refl}
use Rattle.node_key.specs.Examples.{track_of_half}
use Rattle.trace_base.specs.Examples.{two_calls}
use Rattle.hall_tests.proofs.SampleStakes.{two_calls_tree}
use Rattle.hall_tests.proofs.SampleTracks.{load_alone, main_fits}
use Rattle.hall_tests.proofs.samples.load.Goals as goal

pub end_load-requires : goal.end_load-requires
end_load-requires g c =
    load_alone two_calls track_of_half _ _ _ c.in_ok-pass.pass c.build-root.result two_calls_tree main_fits refl
    c.requires c.in_ok-pass.ensures c.build-root.ensures
