use Rattle.std.proofs.Common.{arith}
use Rattle.hall_tests.proofs.SamplePins.{pinned_tracks}
use Rattle.hall_tests.proofs.hall.ask_for.Goals as goal

pub see_root-requires-clause-within : goal.see_root-requires-clause-within
see_root-requires-clause-within g c =
    let told = pinned_tracks _ _ _ _ _ c.in-Pinned.ensures.answer
    in omega (arith, told, c.see_pin.ensures.first)
