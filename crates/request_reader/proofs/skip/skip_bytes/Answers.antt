use Rattle.std.proofs.Common.{◌≡◌, ◌+◌, length, refl, ◌∙◌, arith}
use Rattle.std.proofs.lemmas.List.{length_push}
use Rattle.request_reader.specs.Incoming.{left_to_read}
use Rattle.request_reader.proofs.Taking.{takes-byte}
use Rattle.request_reader.proofs.Unasked.{byte_taken, byte_is_there}
use Rattle.request_reader.proofs.skip.skip_bytes.Goals as goal

pub bytes-preserved : goal.bytes-preserved
bytes-preserved g c = record {
  taken = takes-byte (λ t. length t ≡ c.bytes.counter) (λ t. length t ≡ c.bytes.counter + 1)
      (left_to_read c.args.pending.now (g.I.Source.left c.args.input.now))
      (left_to_read c.bytes.pending (g.I.Source.left c.bytes.input))
      (left_to_read c.next_byte.new.self (g.I.Source.left c.next_byte.new.input))
      c.in-Byte.field-0 c.bytes.invariant.taken c.in-Byte.ensures.gives
      (λ s h. omega (arith, length_push s c.in-Byte.field-0, h));
  unasked = λ fits. let so_far = c.bytes.invariant.unasked fits in
      let one = byte_taken c.bytes.pending c.next_byte.new.self c.bytes.input c.next_byte.new.input
      c.next_byte.result c.next_byte.ensures.unasked (omega (arith, so_far.0)) in
      (omega (arith, so_far.0, one.0), one.1 ∙ so_far.1);
  later = omega arith;
}

pub returns-in-End-clause-unasked : goal.returns-in-End-clause-unasked
returns-in-End-clause-unasked g c = λ fits.
    let none = byte_is_there c.bytes.pending c.next_byte.new.self c.bytes.input c.next_byte.new.input
    c.next_byte.result c.next_byte.ensures.unasked (λ b is. absurd (cc)) in
    absurd (omega (arith, (c.bytes.invariant.unasked fits).0, none))

pub returns-in-Failed-clause-unasked : goal.returns-in-Failed-clause-unasked
returns-in-Failed-clause-unasked g c = λ fits.
    let none = byte_is_there c.bytes.pending c.next_byte.new.self c.bytes.input c.next_byte.new.input
    c.next_byte.result c.next_byte.ensures.unasked (λ b is. absurd (cc)) in
    absurd (omega (arith, (c.bytes.invariant.unasked fits).0, none))

pub returns-clause-unasked : goal.returns-clause-unasked
returns-clause-unasked g c = λ fits. (refl, (c.bytes.invariant.unasked fits).1)
