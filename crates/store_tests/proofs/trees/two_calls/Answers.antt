use Rattle.std.proofs.Common.{List, sym, subst}
use Rattle.trace_base.specs.Stream.{IsLegal}
use Rattle.trace_base.specs.declared.stream.Event.{Event}
use Rattle.trace_base.proofs.LegalTest.{two_calls-legal}
use Rattle.store_tests.proofs.trees.two_calls.Goals as goal

pub returns : goal.returns
returns c = let P : List Event → Type 0 = λ es. IsLegal (record { start = 0; end = 500000000; events = es })
    in subst P (sym c.in_ok-events.ensures) two_calls-legal
