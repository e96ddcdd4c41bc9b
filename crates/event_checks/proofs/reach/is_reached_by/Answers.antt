use Rattle.std.proofs.Common.{subst, sym, true≢false, ◌∙◌}
use Rattle.event_checks.specs.Reach.{KeepsPins}
use Rattle.event_checks.proofs.Reached.{reached_by_pins, reached_by_stakes}
use Rattle.event_checks.proofs.reach.is_reached_by.Goals as goal

pub pins_lead-requires-clause-kept : goal.pins_lead-requires-clause-kept
pins_lead-requires-clause-kept c =
    subst (KeepsPins c.args.w.now.state.registry) (sym c.as_slice-else-stakes_lead.ensures) c.requires.pinned

pub returns-then-stakes_lead : goal.returns-then-stakes_lead
returns-then-stakes_lead c = (
  λ is. reached_by_stakes c.args.w.now c.args.seat.now c.args.n c.as_slice-rooms.result.now
      c.as_slice.result.now c.as_slice-rooms.ensures c.as_slice.ensures (c.stakes_lead.ensures.0 is),
  λ _. c.if-stakes_lead.true,
)

pub returns-else-stakes_lead : goal.returns-else-stakes_lead
returns-else-stakes_lead c =
    reached_by_pins c.args.w.now c.args.seat.now c.args.n c.as_slice-rooms.result.now c.as_slice.result.now
    c.as_slice-else-stakes_lead.result.now c.pins_lead.result c.as_slice-rooms.ensures c.as_slice.ensures
    c.as_slice-else-stakes_lead.ensures
    (λ leads. true≢false (sym (c.stakes_lead.ensures.1 leads) ∙ c.if-stakes_lead.false)) c.pins_lead.ensures
