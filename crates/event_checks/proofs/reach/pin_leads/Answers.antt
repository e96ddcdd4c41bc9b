use Rattle.std.proofs.Common.{sym, true≢false, ◌∙◌}
use Rattle.event_checks.proofs.Reached.{pin_on_two}
use Rattle.event_checks.proofs.reach.pin_leads.Goals as goal

pub returns-else-trace_leads : goal.returns-else-trace_leads
returns-else-trace_leads c =
    pin_on_two c.args.rooms.now c.args.registry.now c.args.pin.now c.in-Two.first c.in-Two.second c.args.target
    c.trace_leads-in-Two-2.result c.in-Two.is
    (λ leads. true≢false (sym (c.trace_leads-in-Two.ensures.1 leads) ∙ c.if-trace_leads.false))
    c.trace_leads-in-Two-2.ensures
