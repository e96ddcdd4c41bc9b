use Rattle.std.proofs.Common.{length}
use Rattle.list_lemmas.proofs.Ranges.{left_next}
use Rattle.paje_print.specs.Generated.{generated_stream}
use Rattle.paje_print.proofs.StreamSteps.{stream_is}
use Rattle.paje_print.proofs.streams.all_streams.Goals as goal

pub loop-track-preserved : goal.loop-track-preserved
loop-track-preserved c = λ seed are called end. left_next (generated_stream seed (length c.args.kernels.now))
    c.loop-track.track 128 c.loop-track.streams _ _ _ c.loop-track-test.true
    (stream_is seed (length c.args.kernels.now) c.loop-track.track c.args.end c.args.called.now _ called end
    (c.in_ok-track_events.ensures seed are)) c.in_ok-push.ensures.ok
    (c.loop-track.invariant seed are called end)
