use Rattle.std.proofs.Common.{List, sym, subst}
use Rattle.trace_base.specs.Stream.{IsLegal}
use Rattle.trace_base.specs.declared.stream.Event.{Event}
use Rattle.trace_base.proofs.LegalTest.{recursion-legal}
use Rattle.folds_tests.proofs.folds.recursion.Goals as goal

pub returns : goal.returns
returns c = let P : List Event → Type 0 = λ es. IsLegal (record { start = 0; end = 10; events = es })
    in subst P (sym c.in_ok-events.ensures) recursion-legal
