use Rattle.std.proofs.Common.{Contains, subst, sym}
use Rattle.hall_history.specs.Seat.{Seat}
use Rattle.hall_trait.specs.Pin.{pin_view}
use Rattle.hall_trait.specs.Reach.{FromPin}
use Rattle.plain_hall.specs.PlainHall.{reached_in, seat_of}
use Rattle.hall_tests.proofs.SamplePins.{first_kid_led, sees_still}
use Rattle.hall_tests.proofs.comparing.first_kid.Goals as goal

pub read-key-requires : goal.read-key-requires
read-key-requires g c = (FromPin (pin_view c.args.pin.now), c.requires.seen.0, c.requires.seen.1)

pub returns-clause-kid : goal.returns-clause-kid
returns-clause-kid g c =
    let from = FromPin (pin_view c.args.pin.now) in
    first_kid_led (reached_in c.read-key.new.self from) c.requires.seen.0 c.read-key.result _
    c.if-key-eq0.false
    (c.read-key.ensures.answer from c.requires.seen.0 c.requires.seen.1)

pub returns-clause-still : goal.returns-clause-still
returns-clause-still g c =
    let pin = pin_view c.args.pin.now in
    let has = subst (λ (s : Seat). Contains s.pins pin) (sym c.read-key.ensures.rest.seat) c.requires.has in
    sees_still (seat_of c.read-key.new.self) (reached_in c.args.hall.now) (reached_in c.read-key.new.self) pin
    c.read-key.ensures.reach has
