use Rattle.std.proofs.Common.{◌≡◌, ◌≤◌, ℕ, List, ◌∷◌, ◌++◌}
use Rattle.request_reader.specs.Incoming.{Takes, left_to_read}
use Rattle.request_reader.specs.Skipping.{HasNoNewline}
use Rattle.request_reader.proofs.Unasked.{ReadsFront}
use Rattle.request_reader.proofs.read_line.read_line.Given as goal

abbrev pub invariant-bytes : goal.invariant-bytes
invariant-bytes g l = record {
  taken : Takes (left_to_read l.fn.pending (g.I.Source.left l.fn.input))
      (left_to_read l.pending (g.I.Source.left l.input)) (λ taken. taken ≡ l.line);
  open_line : HasNoNewline l.line;
  unasked : (waited rest : List ℕ) → HasNoNewline waited → l.fn.pending ≡ waited ++ 10 ∷ rest
      → ReadsFront waited l.line l.pending l.fn.input l.input rest;
  later : g.I.Faults.faults l.fn.input ≤ g.I.Faults.faults l.input;
}
