use Rattle.std.proofs.Common.{Contains, subst, sym}
use Rattle.hall_history.specs.Seat.{Seat}
use Rattle.hall_trait.specs.Pin.{pin_view}
use Rattle.hall_trait.specs.Reach.{FromPin}
use Rattle.plain_hall.specs.PlainHall.{reached_in, seat_of}
use Rattle.hall_tests.proofs.SamplePins.{sees_still}
use Rattle.hall_tests.proofs.comparing.lasts_half.Goals as goal

pub read-requires : goal.read-requires
read-requires g c = (FromPin (pin_view c.args.pin.now), c.requires.seen.0, c.requires.seen.1)

pub returns-clause-still : goal.returns-clause-still
returns-clause-still g c =
    let pin = pin_view c.args.pin.now in
    let has = subst (λ (s : Seat). Contains s.pins pin) (sym c.read.ensures.rest.seat) c.requires.has in
    sees_still (seat_of c.read.new.self) (reached_in c.args.hall.now) (reached_in c.read.new.self) pin
    c.read.ensures.reach has
