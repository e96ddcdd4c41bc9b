use Rattle.std.proofs.Common.{◌≡◌, refl, ap, [], ◌∷◌, ◌++◌, arith}
use Rattle.request_reader.specs.Incoming.{left_to_read}
use Rattle.request_reader.specs.Skipping.{HasNoNewline, IsWholeLine}
use Rattle.request_reader.proofs.Lines.{push-no_newline}
use Rattle.request_reader.proofs.Taking.{takes-byte}
use Rattle.request_reader.proofs.Unasked.{line_goes_on, line_ends, line_is_there}
use Rattle.request_reader.proofs.skip.skip_line.Goals as goal

pub returns-in-Byte-eq10-clause-skips : goal.returns-in-Byte-eq10-clause-skips
returns-in-Byte-eq10-clause-skips g c =
    takes-byte HasNoNewline IsWholeLine
    (left_to_read c.args.pending.now (g.I.Source.left c.args.input.now))
    (left_to_read c.bytes.pending (g.I.Source.left c.bytes.input))
    (left_to_read c.next_byte.new.self (g.I.Source.left c.next_byte.new.input))
    c.in-Byte-eq10.field-0 c.bytes.invariant.taken c.in-Byte-eq10.ensures.gives
    (λ s none. let newline : c.in-Byte-eq10.field-0 ≡ 10 = omega arith
    in (s, ap (λ b. s ++ b ∷ []) newline, none))

pub bytes-preserved : goal.bytes-preserved
bytes-preserved g c = record {
  taken = takes-byte HasNoNewline HasNoNewline
      (left_to_read c.args.pending.now (g.I.Source.left c.args.input.now))
      (left_to_read c.bytes.pending (g.I.Source.left c.bytes.input))
      (left_to_read c.next_byte.new.self (g.I.Source.left c.next_byte.new.input))
      c.in-Byte.field-0 c.bytes.invariant.taken c.in-Byte.ensures.gives
      (λ s none. push-no_newline s c.in-Byte.field-0 none c.in-Byte.field-0-test.1);
  unasked = λ line rest none waits. line_goes_on c.bytes.pending c.next_byte.new.self c.args.input.now
      c.bytes.input c.next_byte.new.input c.next_byte.result c.in-Byte.field-0 rest
      c.next_byte.ensures.unasked
      c.in-Byte.is c.in-Byte.field-0-test.1 (c.bytes.invariant.unasked line rest none waits);
  later = omega arith;
}

pub returns-in-Byte-eq10-clause-unasked : goal.returns-in-Byte-eq10-clause-unasked
returns-in-Byte-eq10-clause-unasked g c = λ line rest none waits.
    let newline : c.in-Byte-eq10.field-0 ≡ 10 = omega arith in
    let end = line_ends c.bytes.pending c.next_byte.new.self c.args.input.now c.bytes.input
    c.next_byte.new.input c.next_byte.result c.in-Byte-eq10.field-0 rest c.next_byte.ensures.unasked
    c.in-Byte-eq10.is newline (c.bytes.invariant.unasked line rest none waits) in
    (refl, end.0, end.1)

pub returns-in-End-clause-unasked : goal.returns-in-End-clause-unasked
returns-in-End-clause-unasked g c = λ line rest none waits.
    absurd (line_is_there c.bytes.pending c.next_byte.new.self c.args.input.now c.bytes.input
    c.next_byte.new.input c.next_byte.result rest c.next_byte.ensures.unasked (λ b is. absurd (cc))
    (c.bytes.invariant.unasked line rest none waits))

pub returns-in-Failed-clause-unasked : goal.returns-in-Failed-clause-unasked
returns-in-Failed-clause-unasked g c = λ line rest none waits.
    absurd (line_is_there c.bytes.pending c.next_byte.new.self c.args.input.now c.bytes.input
    c.next_byte.new.input c.next_byte.result rest c.next_byte.ensures.unasked (λ b is. absurd (cc))
    (c.bytes.invariant.unasked line rest none waits))
