use Rattle.std.proofs.Common.{◌≡◌, ◌+◌, ◌≤◌, length}
use Rattle.request_reader.specs.Incoming.{Takes, left_to_read}
use Rattle.request_reader.proofs.skip.skip_bytes.Given as goal

abbrev pub invariant-bytes : goal.invariant-bytes
invariant-bytes g l = record {
  taken : Takes (left_to_read l.fn.pending (g.I.Source.left l.fn.input))
      (left_to_read l.pending (g.I.Source.left l.input)) (λ taken. length taken ≡ l.counter);
  unasked : l.count ≤ length l.fn.pending → (length l.pending + l.counter ≡ length l.fn.pending)
      × (l.input ≡ l.fn.input);
  later : g.I.Faults.faults l.fn.input ≤ g.I.Faults.faults l.input;
}
