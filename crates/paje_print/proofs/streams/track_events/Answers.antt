use Rattle.std.proofs.Common.{◌≡◌, ◌+◌, ◌*◌, ℕ, ap, arith, refl, slice_index_or}
use Rattle.paje_print.proofs.StreamSteps.{IsPlayed, clock_played, events_played}
use Rattle.paje_print.proofs.streams.track_events.Goals as goal

pub loop-i-preserved : goal.loop-i-preserved
loop-i-preserved c =
    let kernel : ℕ = slice_index_or c.args.kernels.now (128 * c.loop-i.i + c.args.track) 0 in
    let takes : 1000 * (c.from.result + 1) ≡ 1000 * (kernel + 1) =
    ap (λ (k : ℕ). 1000 * (k + 1)) c.from.ensures in
    let played : IsPlayed c.args.track c.loop-i.i c.loop-i.clock kernel (1000 * (c.from.result + 1))
    c.args.kernels.now = record {
      on = c.requires.track;
      there = c.bundle_count-i-end.ensures.within c.loop-i.i c.loop-i-test.true;
      reads = refl;
      takes = takes;
    } in
    record {
      short = omega (arith, c.in_ok-clock.ensures.end);
      clock = λ seed are. clock_played seed c.args.track c.loop-i.i c.loop-i.clock kernel
          (1000 * (c.from.result + 1)) c.in_ok-clock.clock c.args.kernels.now are played
          (c.loop-i.invariant.clock seed are) c.in_ok-clock.ensures.end;
      events = λ seed are. events_played seed c.args.track c.loop-i.i c.loop-i.clock kernel
          (1000 * (c.from.result + 1)) c.place_of.result c.args.kernels.now c.args.called.now c.loop-i.events
          c.add_bundle.new.events are played (c.loop-i.invariant.clock seed are) c.place_of.ensures.place
          (c.loop-i.invariant.events seed are) c.in_ok-clock.ensures.events;
    }
