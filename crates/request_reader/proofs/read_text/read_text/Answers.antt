use Rattle.std.proofs.Common.{◌≡◌, ◌<◌, [], ◌∷◌, ◌++◌, length, ap, sym, ◌∙◌, arith}
use Rattle.std.proofs.Common.{length-append}
use Rattle.request_reader.specs.Incoming.{left_to_read}
use Rattle.request_reader.proofs.Taking.{takes-byte, takes-then, takes-moved}
use Rattle.request_reader.proofs.Unasked.{byte_taken, byte_is_there}
use Rattle.request_reader.proofs.read_text.read_text.Goals as goal

pub loop-pending-preserved : goal.loop-pending-preserved
loop-pending-preserved g c =
    let old = left_to_read c.args.pending.now (g.I.Source.left c.args.input.now) in
    let was = left_to_read c.loop-pending.pending (g.I.Source.left c.loop-pending.input) in
    let mid = left_to_read c.next_byte.new.self (g.I.Source.left c.next_byte.new.input) in
    let now = left_to_read c.move_into.new.self (g.I.Source.left c.next_byte.new.input) in
    let text = c.loop-pending.text.items in
    let longer = text ++ c.in-Byte.byte ∷ [] in
    let m = c.move_into.ensures.moved in
    let count = length-append c.push.new.self.items m.0 in
    let one = length-append text (c.in-Byte.byte ∷ []) in
    let inside : length text < c.args.len = omega (arith, c.loop-pending-test.true, c.len.ensures) in
    record {
      taken = takes-then (λ t. t ≡ longer) (λ t. t ≡ m.0) (λ t. t ≡ c.move_into.new.text.items) old mid now
          (takes-byte (λ t. t ≡ text) (λ t. t ≡ longer) old was mid c.in-Byte.byte
          c.loop-pending.invariant.taken c.in-Byte.ensures.gives
          (λ s is. ap (λ l. l ++ c.in-Byte.byte ∷ []) is))
          (takes-moved c.next_byte.new.self c.move_into.new.self m.0 (g.I.Source.left c.next_byte.new.input)
          m.1)
          (λ s t first behind. ap (λ l. l ++ t) first ∙ ap (λ l. longer ++ l) behind
          ∙ ap (λ l. l ++ m.0) (sym c.in-Ok.ensures.items) ∙ sym m.2);
      most = omega (
        arith,
        inside,
        ap length m.2,
        count,
        one,
        ap length c.in-Ok.ensures.items,
        m.3,
        c.len-in-Ok.ensures,
      );
      room = omega (arith, c.loop-pending.invariant.room, c.in-Ok.ensures.capacity, c.move_into.ensures.room);
      unasked = λ fits.
          let so_far = c.loop-pending.invariant.unasked fits in
          let taken = byte_taken c.loop-pending.pending c.next_byte.new.self c.loop-pending.input
          c.next_byte.new.input
          c.next_byte.result c.next_byte.ensures.unasked (omega (arith, so_far.0, inside)) in (
            omega (
              arith,
              so_far.0,
              taken.0,
              ap length m.1,
              length-append m.0 c.move_into.new.self,
              ap length m.2,
              count,
              one,
              ap length c.in-Ok.ensures.items,
            ),
            taken.1 ∙ so_far.1,
          );
      later = omega (arith, c.loop-pending.invariant.later, c.next_byte.ensures.later);
    }

pub returns-in-End-clause-unasked : goal.returns-in-End-clause-unasked
returns-in-End-clause-unasked g c = λ fits.
    let none = byte_is_there c.loop-pending.pending c.next_byte.new.self c.loop-pending.input
    c.next_byte.new.input
    c.next_byte.result c.next_byte.ensures.unasked (λ b is. absurd (cc)) in
    let inside : length c.loop-pending.text.items < c.args.len =
    omega (arith, c.loop-pending-test.true, c.len.ensures) in
    absurd (omega (arith, (c.loop-pending.invariant.unasked fits).0, none, inside))

pub returns-in-Failed-next_byte-clause-unasked : goal.returns-in-Failed-next_byte-clause-unasked
returns-in-Failed-next_byte-clause-unasked g c = λ fits.
    let none = byte_is_there c.loop-pending.pending c.next_byte.new.self c.loop-pending.input
    c.next_byte.new.input
    c.next_byte.result c.next_byte.ensures.unasked (λ b is. absurd (cc)) in
    let inside : length c.loop-pending.text.items < c.args.len =
    omega (arith, c.loop-pending-test.true, c.len.ensures) in
    absurd (omega (arith, (c.loop-pending.invariant.unasked fits).0, none, inside))
