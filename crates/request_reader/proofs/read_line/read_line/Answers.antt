use Rattle.std.proofs.Common.{◌≡◌, ◌≢◌, ℕ, ◌≤◌, List, [], ◌∷◌, ◌++◌, length, ap, sym, ◌∙◌, subst, arith}
use Rattle.trace_base.specs.declared.limits.TheConstants.{MAX_REQUEST_LINE}
use Rattle.request_reader.specs.Incoming.{Takes, left_to_read}
use Rattle.request_reader.specs.Skipping.{HasNoNewline, IsWholeLine}
use Rattle.request_reader.specs.LineReading.{IsLongLine}
use Rattle.request_reader.proofs.LongLines.{BeginsLong, begins_long, long_whole, long_cut}
use Rattle.request_reader.proofs.Lines.{push-no_newline}
use Rattle.request_reader.proofs.Taking.{takes-byte, takes-then}
use Rattle.request_reader.specs.declared.skip.Skipped.TheVariants as skipped
use Rattle.request_reader.proofs.Unasked.{ReadsFront, front_goes_on, front_ends, front_is_shorter}
use Rattle.request_reader.proofs.Unasked.{front_is_there}
use Rattle.request_reader.proofs.read_line.read_line.Goals as goal
use Rattle.request_reader.proofs.read_line.read_line.Goals.{in-Whole, in-Cut, in-Failed-skip_line}

pub returns-then-not-has_room-clause-reads : goal.returns-then-not-has_room-clause-reads
returns-then-not-has_room-clause-reads g c =
    let old = left_to_read c.args.pending.now (g.I.Source.left c.args.input.now) in
    let mid = left_to_read c.next_byte.new.self (g.I.Source.left c.next_byte.new.input) in
    let new = left_to_read c.skip_line.new.pending (g.I.Source.left c.skip_line.new.input) in
    let full : 4096 ≤ length c.bytes.line = grind (arith, c.has_room.ensures, c.if-not-has_room.true) in
    let long : Takes old mid BeginsLong =
    takes-byte (λ s. s ≡ c.bytes.line) BeginsLong old
    (left_to_read c.bytes.pending (g.I.Source.left c.bytes.input)) mid
    c.in-Byte.byte c.bytes.invariant.taken c.in-Byte.ensures.gives
    (λ s is. begins_long c.bytes.line s c.in-Byte.byte c.bytes.invariant.open_line full c.in-Byte.byte-test.1
    is) in
    elim c.match-skip_line.branch [
      | in-Whole w ↦ rw w.result-is (takes-then BeginsLong IsWholeLine IsLongLine old mid new long
          w.in-Whole.ensures.skips long_whole)
      | in-Cut w ↦ rw w.result-is (
        takes-then BeginsLong HasNoNewline (λ t. (t ≢ []) × HasNoNewline t) old mid new long
            w.in-Cut.ensures.skips.0 long_cut,
        w.in-Cut.ensures.skips.1,
      )
      | in-Failed-skip_line w ↦ rw w.result-is
          (takes-then BeginsLong HasNoNewline HasNoNewline old mid new long
          w.in-Failed-skip_line.ensures.skips (λ s t p q. (long_cut s t p q).1))
    ]

pub returns-then-not-has_room-clause-unasked : goal.returns-then-not-has_room-clause-unasked
returns-then-not-has_room-clause-unasked g c = λ waited rest none waits.
    let full : MAX_REQUEST_LINE ≤ length c.bytes.line =
    grind (arith, c.has_room.ensures, c.if-not-has_room.true) in
    let longer = front_is_shorter waited c.bytes.line c.bytes.pending c.next_byte.new.self
    c.args.input.now c.bytes.input c.next_byte.new.input c.next_byte.result c.in-Byte.byte rest
    c.next_byte.ensures.unasked c.in-Byte.is
    c.in-Byte.byte-test.1 (c.bytes.invariant.unasked waited rest none waits) in
    let skips = c.skip_line.ensures.unasked longer.1.0 rest longer.1.1 longer.1.2 in
    let same = skips.2 ∙ longer.1.3 in
    elim c.match-skip_line.branch [
      | in-Whole w ↦ rw w.result-is (omega (arith, full, longer.0), skips.1, same)
      | in-Cut w ↦ absurd (no_cut (sym skips.0 ∙ w.in-Cut.is))
      | in-Failed-skip_line w ↦ absurd (no_failure (sym skips.0 ∙ w.in-Failed-skip_line.is))
    ]
  where
    no_cut : skipped.Whole ≡ skipped.Cut → ⊥
    no_cut is = absurd (cc)

    no_failure : skipped.Whole ≡ skipped.Failed → ⊥
    no_failure is = absurd (cc)

pub returns-in-Byte-eq10-clause-unasked : goal.returns-in-Byte-eq10-clause-unasked
returns-in-Byte-eq10-clause-unasked g c = λ waited rest none waits.
    let newline : c.in-Byte-eq10.field-0 ≡ 10 = omega arith in
    front_ends waited c.bytes.line c.bytes.pending c.next_byte.new.self
    c.args.input.now c.bytes.input c.next_byte.new.input c.next_byte.result c.in-Byte-eq10.field-0 rest
    c.next_byte.ensures.unasked c.in-Byte-eq10.is
    newline (c.bytes.invariant.unasked waited rest none waits)

pub returns-in-End-clause-unasked : goal.returns-in-End-clause-unasked
returns-in-End-clause-unasked g c = λ waited rest none waits.
    absurd (front_is_there waited c.bytes.line c.bytes.pending c.next_byte.new.self
    c.args.input.now c.bytes.input c.next_byte.new.input c.next_byte.result rest c.next_byte.ensures.unasked
    (λ b is. absurd (cc))
    (c.bytes.invariant.unasked waited rest none waits))

pub returns-in-End-2-clause-unasked : goal.returns-in-End-2-clause-unasked
returns-in-End-2-clause-unasked g c = λ waited rest none waits.
    absurd (front_is_there waited c.bytes.line c.bytes.pending c.next_byte.new.self
    c.args.input.now c.bytes.input c.next_byte.new.input c.next_byte.result rest c.next_byte.ensures.unasked
    (λ b is. absurd (cc))
    (c.bytes.invariant.unasked waited rest none waits))

pub returns-in-Failed-clause-unasked : goal.returns-in-Failed-clause-unasked
returns-in-Failed-clause-unasked g c = λ waited rest none waits.
    absurd (front_is_there waited c.bytes.line c.bytes.pending c.next_byte.new.self
    c.args.input.now c.bytes.input c.next_byte.new.input c.next_byte.result rest c.next_byte.ensures.unasked
    (λ b is. absurd (cc))
    (c.bytes.invariant.unasked waited rest none waits))

pub bytes-preserved : goal.bytes-preserved
bytes-preserved g c =
    let old = left_to_read c.args.pending.now (g.I.Source.left c.args.input.now) in
    let was = left_to_read c.bytes.pending (g.I.Source.left c.bytes.input) in
    let now = left_to_read c.next_byte.new.self (g.I.Source.left c.next_byte.new.input) in
    let more = c.bytes.line ++ c.in-Byte.byte ∷ [] in
    record {
      taken = takes-byte (λ s. s ≡ c.bytes.line) (λ s. s ≡ c.push.new.self) old was now c.in-Byte.byte
          c.bytes.invariant.taken c.in-Byte.ensures.gives
          (λ s is. ap (λ l. l ++ c.in-Byte.byte ∷ []) is ∙ sym c.push.ensures);
      open_line = subst HasNoNewline (sym c.push.ensures)
          (push-no_newline c.bytes.line c.in-Byte.byte c.bytes.invariant.open_line c.in-Byte.byte-test.1);
      unasked = λ waited rest none waits. subst (λ (l : List ℕ). ReadsFront waited l c.next_byte.new.self
          c.args.input.now c.next_byte.new.input rest) (sym c.push.ensures)
          (front_goes_on waited c.bytes.line c.bytes.pending c.next_byte.new.self c.args.input.now
          c.bytes.input c.next_byte.new.input c.next_byte.result c.in-Byte.byte rest
          c.next_byte.ensures.unasked c.in-Byte.is c.in-Byte.byte-test.1
          (c.bytes.invariant.unasked waited rest none waits));
      later = omega arith;
    }
