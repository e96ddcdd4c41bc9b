-- A stream on which main calls f nine times in a row is legal.
use Rattle.std.proofs.Common.{List, [], ◌∷◌, refl}
use Rattle.trace_base.proofs.LegalTest.{IsLegal-from}
use Rattle.trace_base.specs.Stream.{IsLegal, stack_after}
use Rattle.trace_base.specs.declared.stream.Event.{Event}
use Rattle.trace_base.specs.declared.stream.Event.TheVariants.{Enter, Leave}

abbrev pub main_and_nine : List Event
main_and_nine =
    Enter 1 0 ∷ Enter 2 0 ∷ Leave 10 ∷ Enter 2 10 ∷ Leave 20 ∷ Enter 2 20 ∷ Leave 30 ∷ Enter 2 30 ∷
    Leave 40 ∷ Enter 2 40 ∷ Leave 50 ∷ Enter 2 50 ∷ Leave 60 ∷ Enter 2 60 ∷ Leave 70 ∷ Enter 2 70 ∷
    Leave 80 ∷ Enter 2 80 ∷ Leave 90 ∷ Leave 90 ∷ []

pub nine_calls-legal : IsLegal (record { start = 0; end = 90; events = main_and_nine })
unfolding stack_after
nine_calls-legal = IsLegal-from (record { start = 0; end = 90; events = main_and_nine })
    (record { in_time = refl; in_order = refl; each = refl; all_closed = refl; depth = refl; calls = refl })
