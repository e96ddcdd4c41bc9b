use Rattle.std.proofs.Common.{arith, below_more, sym, true≢false, ◌∙◌}
use Rattle.event_checks.proofs.Reached.{no_track}
use Rattle.event_checks.proofs.reach.trace_leads.Goals as goal

pub loop-track-preserved : goal.loop-track-preserved
loop-track-preserved c =
    below_more _ _ c.loop-track.invariant
    (λ leads. true≢false (sym (c.track_leads.ensures.1 leads) ∙ c.if-track_leads.false))

pub returns : goal.returns
returns c = (
  λ is. absurd (true≢false (sym is)),
  λ leads. absurd (no_track c.args.rooms.now c.args.registry.now c.args.id c.args.place c.args.target
      c.loop-track.track (λ t kept. omega (arith, c.brief-track-end.ensures t kept, c.loop-track-test.false))
      c.loop-track.invariant leads),
)
