use Rattle.std.proofs.Common.{All, subst, sym, true≢false, ◌∙◌}
use Rattle.std.proofs.lemmas.List.{take_all}
use Rattle.std.proofs.lemmas.List.Elements.{All-contains, All-more}
use Rattle.hall_history.specs.declared.asks.AskIds.TheVariants.{One}
use Rattle.hall_history.specs.declared.seat.PinView.{PinView}
use Rattle.event_checks.specs.Reach.{PinLeads}
use Rattle.event_checks.proofs.reach.pins_lead.Goals as goal

abbrev none : PinView
none = record { ids = One 0; place = 0 }

pub loop-pin-preserved : goal.loop-pin-preserved
loop-pin-preserved c =
    All-more (λ (p : PinView). ¬ PinLeads c.args.rooms.now c.args.registry.now p c.args.target) c.args.pins.now
    c.loop-pin.pin-index none c.loop-pin-test.true c.loop-pin.invariant
    (λ leads. true≢false (sym (c.pin_leads.ensures.1 leads) ∙ c.if-pin_leads.false))

pub returns : goal.returns
returns c = (
  λ is. absurd (true≢false (sym is)),
  λ (p, among, leads). absurd (All-contains
      (λ (q : PinView). ¬ PinLeads c.args.rooms.now c.args.registry.now q c.args.target) c.args.pins.now p
      (subst (All (λ (q : PinView). ¬ PinLeads c.args.rooms.now c.args.registry.now q c.args.target))
      (take_all c.loop-pin.pin-index c.args.pins.now c.loop-pin-test.false) c.loop-pin.invariant) among leads),
)
