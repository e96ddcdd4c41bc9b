use Rattle.std.proofs.Common.{ap, arith, take}
use Rattle.hall_history.specs.History.{tracks_of}
use Rattle.hall_history.specs.Seat.{Seat}
use Rattle.hall_history.specs.Asks.{second_id}
use Rattle.hall_tests.proofs.SamplePins.{pinned_tracks, pinned_tracks_second}
use Rattle.hall_tests.proofs.comparing.pin_roots.Goals as goal

pub root_of-root-requires-clause-within : goal.root_of-root-requires-clause-within
root_of-root-requires-clause-within g c =
    let told = pinned_tracks _ _ _ _ _ c.in-Pinned.ensures.answer in omega (arith, told, c.see_pin.ensures.first)

pub root_of-other-requires-clause-within : goal.root_of-other-requires-clause-within
root_of-other-requires-clause-within g c =
    let pin = c.in-Pinned.pin in
    let told = pinned_tracks_second _ _ _ _ _ c.in-Pinned.ensures.answer in
    let same = ap (λ (s : Seat). tracks_of (take pin.place s.seen) (second_id pin.ids)) c.root_of-root.ensures.seat
    in omega (arith, told, same, c.see_pin.ensures.second)

pub returns-clause-root : goal.returns-clause-root
returns-clause-root g c =
    c.root_of-other.ensures.still c.root_of-root.result c.root_of-root.ensures.root
