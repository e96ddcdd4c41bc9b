use Rattle.std.proofs.Common.{◌≡◌, ◌+◌, ◌-◌, ◌≤◌, length}
use Rattle.std.specs.Prelude.{vec_capacity}
use Rattle.request_reader.specs.Incoming.{Takes, left_to_read}
use Rattle.request_reader.proofs.read_text.read_text.Given as goal

abbrev pub invariant-loop-pending : goal.invariant-loop-pending
invariant-loop-pending g l = record {
  taken : Takes (left_to_read l.fn.pending (g.I.Source.left l.fn.input))
      (left_to_read l.pending (g.I.Source.left l.input)) (λ taken. taken ≡ l.text.items);
  most : length l.text.items ≤ l.count;
  room : l.count ≤ vec_capacity l.text;
  unasked : l.count ≤ length l.fn.pending
      → (length l.pending + length l.text.items ≡ length l.fn.pending) × (l.input ≡ l.fn.input);
  later : g.I.Faults.faults l.fn.input ≤ g.I.Faults.faults l.input;
}

abbrev pub decreases-loop-pending : goal.decreases-loop-pending
decreases-loop-pending g l = l.count - length l.text.items
