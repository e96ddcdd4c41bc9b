use Rattle.std.proofs.Common.{List, sym, subst}
use Rattle.trace_base.specs.Stream.{IsLegal}
use Rattle.trace_base.specs.declared.stream.Event.{Event}
use Rattle.hall_tests.proofs.NineCalls.{nine_calls-legal}
use Rattle.hall_tests.proofs.work.nine_calls.Goals as goal

pub returns : goal.returns
returns c = let P : List Event → Type 0 = λ es. IsLegal (record { start = 0; end = 90; events = es })
    in subst P (sym c.in_ok-events.ensures) nine_calls-legal
