use Rattle.std.proofs.Common.{arith, sym, true≢false}
use Rattle.event_checks.proofs.TrackTrees.{stream_made, track_stream, track_test}
use Rattle.event_checks.proofs.track_tree.is_track_tree.Goals as goal

pub returns-in_default : goal.returns-in_default
returns-in_default c = (
  λ is. absurd (true≢false (sym is)),
  λ has. absurd (omega (
    arith,
    (track_stream c.args.tree.now c.args.start c.args.info.now c.args.track has).0,
    c.in_default.ensures.none,
  )),
)

pub returns : goal.returns
returns c =
    track_test c.args.tree.now c.args.start
    (record { start = c.args.start; end = c.in-Some.end; events = c.in_ok-events.events }) c.args.info.now
    c.args.track c.fits_with.result
    (stream_made c.args.tree.now c.args.start c.in-Some.end c.in_ok-events.events
    c.in-Some.ensures.some.0 c.in_ok-events.ensures) c.fits_with.ensures
