use Rattle.std.proofs.Common.{◌∙◌, arith, refl, sym, true≢false}
use Rattle.trace_base.specs.declared.names.Track.{Track}
use Rattle.event_checks.proofs.Twins.{once_end, once_more, once_not}
use Rattle.event_checks.proofs.legal_info.are_distinct.Goals as goal

abbrev none : Track
none = record { container = 0; kind = 0 }

pub returns-then-is_among : goal.returns-then-is_among
returns-then-is_among c = (
  λ is. absurd (true≢false (sym is)),
  λ once. absurd (once_not c.args.tracks.now c.loop-i.i none c.loop-i-test.true
      (c.is_among.ensures.0 c.if-is_among.true) once),
)

pub loop-i-preserved : goal.loop-i-preserved
loop-i-preserved c = once_more c.args.tracks.now c.loop-i.i none c.loop-i.invariant c.loop-i-test.true
    (λ among. true≢false (sym (c.is_among.ensures.1 among) ∙ c.if-is_among.false))

pub returns : goal.returns
returns c = (
  λ _. once_end c.args.tracks.now c.loop-i.i (omega arith) c.loop-i.invariant,
  λ _. refl,
)
