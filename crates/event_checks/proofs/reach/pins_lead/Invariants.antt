use Rattle.std.proofs.Common.{All, take}
use Rattle.hall_history.specs.declared.seat.PinView.{PinView}
use Rattle.event_checks.specs.Reach.{PinLeads}
use Rattle.event_checks.proofs.reach.pins_lead.Given as goal

abbrev pub invariant-loop-pin : goal.invariant-loop-pin
invariant-loop-pin l =
    All (λ (p : PinView). ¬ PinLeads l.rooms l.registry p l.target) (take l.pin-index l.pins)
