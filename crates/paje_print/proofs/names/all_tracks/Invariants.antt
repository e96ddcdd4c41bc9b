use Rattle.std.proofs.Common.{◌≡◌, ◌++◌, ◌-◌, map}
use Rattle.std.specs.List.{range_with_len}
use Rattle.paje_print.specs.Generated.{generated_track}
use Rattle.paje_print.proofs.names.all_tracks.Given as goal

abbrev pub invariant-loop-track : goal.invariant-loop-track
invariant-loop-track l = l.tracks ++ map generated_track (range_with_len l.track (128 - l.track))
    ≡ map generated_track (range_with_len 0 128)
