use Rattle.std.proofs.Common.{List, ap, ◌∙◌, subst}
use Rattle.hall_history.specs.Seat.{Removes, Seat}
use Rattle.hall_history.specs.declared.seat.PinView.{PinView}
use Rattle.hall_trait.specs.Pin.{pin_view}
use Rattle.plain_hall.specs.PlainHall.{seat_of}
use Rattle.hall_tests.proofs.SampleLoads.{none_left_at_once}
use Rattle.hall_tests.proofs.twins.see_twins.Goals as goal

pub returns : goal.returns
returns g c =
    let asked = c.in-Pinned.ensures.answer in
    let seen = c.same_tells.ensures.seat ∙ c.root_of-second.ensures.seat ∙ c.root_of-first.ensures.seat in
    record {
      no_stakes = c.unpin.ensures.stakes ∙ ap (λ (s : Seat). s.stakes) seen ∙ asked.stakes
          ∙ c.requires.no_stakes;
      no_pins = none_left_at_once _ _ _ _ c.requires.no_pins asked.pins
          (subst (λ (ps : List PinView). Removes ps (seat_of c.unpin.new.self).pins (pin_view c.in-Pinned.pin))
          (ap (λ (s : Seat). s.pins) seen) c.unpin.ensures.gone);
      no_passes = c.unpin.ensures.passes ∙ ap (λ (s : Seat). s.passes) seen ∙ asked.passes
          ∙ c.requires.no_passes;
    }
