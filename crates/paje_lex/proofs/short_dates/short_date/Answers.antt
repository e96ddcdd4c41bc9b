use Rattle.std.proofs.Common.{[], ◌+◌, ◌*◌, ◌-◌, ◌^◌, length, take, refl, arith, ap, ◌∙◌, length-drop}
use Rattle.paje_lex.proofs.DateLemmas.{slice_behind}
use Rattle.paje_lex.proofs.ShortDates.{room_later, short_is, short_told}
use Rattle.paje_lex.proofs.short_dates.short_date.Goals as goal

pub with_digits-number-requires : goal.with_digits-number-requires
with_digits-number-requires c =
    let text = c.args.text.now in
    let count = c.with_digits-whole.result.1 in
    record {
      room = room_later c.with_digits-whole.result.0 (length text) count _
          (ap length (slice_behind (count + 1) (count + 1) text refl) ∙ simp length-drop refl)
          c.with_digits-whole.ensures.room;
    }

pub returns : goal.returns
returns c =
    let text = c.args.text.now in
    let whole = c.with_digits-whole in
    let number = c.with_digits-number in
    let count = whole.result.1 in
    let slice = slice_behind (count + 1) (count + 1) text refl in
    short_told c.nanoseconds.result text (number.result.0 * 10 ^ (9 - number.result.1)) c.nanoseconds.ensures
    (λ time is fits. short_is text _ count number.result.1 number.result.0 time slice whole.ensures.len
    (omega (arith, c.if-count-eq0.false)) (omega (arith, c.if-count-text.false, whole.ensures.within))
    c.if-text-count-ne46.false number.ensures.len c.if-places-behind.false number.ensures.within
    c.if-places-gt-SHORT_PLACES.false (number.ensures.number (take count text) (whole.ensures.number [] refl))
    is fits)
