use Rattle.std.proofs.Common.{arith, refl}
use Rattle.list_lemmas.proofs.Ranges.{left_next}
use Rattle.paje_print.specs.Generated.{generated_track}
use Rattle.paje_print.proofs.names.all_tracks.Goals as goal

pub loop-track-preserved : goal.loop-track-preserved
loop-track-preserved c = left_next generated_track c.loop-track.track 128 c.loop-track.tracks _ _ _
    (omega arith) refl c.in_ok-push.ensures.ok c.loop-track.invariant
