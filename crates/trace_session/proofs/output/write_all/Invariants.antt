use Rattle.std.proofs.Common.{◌≡◌, ◌≤◌, ◌++◌, ℕ, List, length}
use Rattle.trace_base.specs.Outside.{Told}
use Rattle.trace_session.proofs.output.write_all.Given as goal

abbrev pub invariant-loop-rest : goal.invariant-loop-rest
invariant-loop-rest g l = record {
  written : (front : List ℕ) × (l.bytes ≡ front ++ l.rest)
      × Told (g.O.Sink.held l.fn.output) (g.O.Sink.held l.output) (λ was now. now ≡ was ++ front);
  later : g.O.Faults.faults l.fn.output ≤ g.O.Faults.faults l.output;
}

abbrev pub decreases-loop-rest : goal.decreases-loop-rest
decreases-loop-rest g l = length l.rest
