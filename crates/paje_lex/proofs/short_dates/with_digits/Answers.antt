use Rattle.std.proofs.Common.{ℕ, ◌+◌, ◌*◌, ◌-◌, ◌^◌, ◌<◌, ◌≤◌, length, sym, ◌∙◌, arith, get_or}
use Rattle.std.specs.Char.{is_ascii_digit}
use Rattle.std.proofs.lemmas.List.Sums.{prefix_len_is}
use Rattle.list_lemmas.proofs.Digits.{small_digit}
use Rattle.paje_lex.proofs.ShortDates.{digit_behind, digits_more, room_behind, below_room}
use Rattle.paje_lex.proofs.short_dates.with_digits.Goals as goal

pub returns-then-not-is_ascii_digit-clause-len : goal.returns-then-not-is_ascii_digit-clause-len
returns-then-not-is_ascii_digit-clause-len c =
    sym (prefix_len_is is_ascii_digit c.args.text.now c.loop-at.at 0 (omega arith) c.loop-at.invariant.front
    (λ _. cc))

-- a digit more has room
more_room : (number digit len at : ℕ) → at < len → digit < 10 → (number + 1) * 10 ^ (len - at) ≤ 10 ^ 19
    → 10 * number + digit < 10 ^ 19
more_room number digit len at some small room = below_room (10 * number + digit) (len - (at + 1))
    (room_behind number digit len at some small room)

pub overflow_mul-longer : goal.overflow_mul-longer
overflow_mul-longer c = omega (
  arith,
  more_room c.loop-at.longer 0 _ c.loop-at.at c.loop-at-test.true (omega arith) c.loop-at.invariant.room,
)

pub overflow_add-longer : goal.overflow_add-longer
overflow_add-longer c =
    let is = sym c.is_ascii_digit.ensures.value ∙ c.if-not-is_ascii_digit.false in
    omega (
      arith,
      more_room c.loop-at.longer c.from.result _ c.loop-at.at c.loop-at-test.true
          (omega (arith, c.from.ensures, small_digit (get_or c.args.text.now c.loop-at.at 0) is)) c.loop-at.invariant.room,
    )

pub loop-at-preserved : goal.loop-at-preserved
loop-at-preserved c =
    let text = c.args.text.now in
    let at = c.loop-at.at in
    let is = sym c.is_ascii_digit.ensures.value ∙ c.if-not-is_ascii_digit.false in
    record {
      number = λ digits e. digit_behind digits text at c.loop-at.longer c.from.result c.loop-at-test.true is
          c.from.ensures (c.loop-at.invariant.number digits e);
      room = room_behind c.loop-at.longer c.from.result (length text) at c.loop-at-test.true
          (omega (arith, c.from.ensures, small_digit (get_or c.args.text.now c.loop-at.at 0) is)) c.loop-at.invariant.room;
      front = digits_more text at c.loop-at.invariant.front is;
    }

pub returns-clause-len : goal.returns-clause-len
returns-clause-len c =
    sym (prefix_len_is is_ascii_digit c.args.text.now _ 0 (omega arith)
    (λ k h. c.loop-at.invariant.front k (omega arith)) (λ h. absurd (omega arith)))
