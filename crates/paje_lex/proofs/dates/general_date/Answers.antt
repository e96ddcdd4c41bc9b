use Rattle.std.proofs.Common.{◌≡◌, ◌+◌, ◌*◌, ◌^◌, ◌⊎◌, inl, inr, arith, take, false, sym, ap, ◌∙◌}
use Rattle.std.proofs.lemmas.Bool.{true≢false}
use Rattle.std.specs.Option.{option_map}
use Rattle.std.specs.Str.Parse.{digits_value}
use Rattle.paje_lex.specs.DateGrammar.{tens_of, is_minus, whole_nanoseconds}
use Rattle.paje_lex.specs.DateReading.{sign_len, digits_at, body_of, exponent_of}
use Rattle.paje_lex.proofs.DateLemmas.{date_without_exponent, date_without_digits, date_with}
use Rattle.paje_lex.proofs.DateLemmas.{negative_date, plain_date}
use Rattle.paje_lex.proofs.dates.general_date.Goals as goal
use Rattle.paje_lex.proofs.dates.general_date.Goals.{else-is_negative-via-then-is_negative+else-not-is_zero}
use Rattle.paje_lex.proofs.dates.general_date.Goals.{else-is_negative-via-else-is_negative}

pub returns-in_default : goal.returns-in_default
returns-in_default c =
    let read = c.read_mantissa-mantissa.ensures.read in
    date_without_exponent c.args.text.now
    (c.in_default.ensures.tens ∙ ap (λ x. option_map tens_of (exponent_of x)) read.rest)

pub returns-then-mantissa-eq0 : goal.returns-then-mantissa-eq0
returns-then-mantissa-eq0 c =
    date_without_digits c.args.text.now
    (sym c.read_mantissa-mantissa.ensures.read.count ∙ c.if-mantissa-eq0.true)

pub returns-then-not-is_zero : goal.returns-then-not-is_zero
returns-then-not-is_zero c =
    let text = c.args.text.now in
    let tens = c.in-Some.tens in
    let read = c.read_mantissa-mantissa.ensures.read in
    let zero = c.is_zero.ensures _ read.digits in
    sym (negative_date text tens.up tens.down (sym c.is_negative.ensures ∙ c.if-is_negative.true)
    (λ none. true≢false (sym (zero.1 none) ∙ c.if-not-is_zero.true)))
    ∙ date_with text tens.up tens.down
    (c.in-Some.ensures.tens ∙ ap (λ x. option_map tens_of (exponent_of x)) read.rest)
    (omega (arith, read.count, c.if-mantissa-eq0.false))

pub returns : goal.returns
returns c =
    let text = c.args.text.now in
    let tens = c.in-Some.tens in
    let read = c.read_mantissa-mantissa.ensures.read in
    let number = digits_value 10 (digits_at (body_of text)) in
    let plain : (is_minus (take (sign_len text) text) ≡ false) ⊎ (number ≡ 0) =
    elim c.else-is_negative.branch [
      | else-is_negative-via-then-is_negative+else-not-is_zero w ↦
          inr ((w.is_zero.ensures _ read.digits).0 w.if-not-is_zero.false)
      | else-is_negative-via-else-is_negative w ↦ inl (sym c.is_negative.ensures ∙ w.if-is_negative.false)
    ] in
    c.scaled.ensures _ read.digits
    ∙ (ap (λ n. whole_nanoseconds (number * 10 ^ (9 + tens.up)) (10 ^ (n + tens.down))) read.places
    ∙ (sym (plain_date text tens.up tens.down plain) ∙ date_with text tens.up tens.down
    (c.in-Some.ensures.tens ∙ ap (λ x. option_map tens_of (exponent_of x)) read.rest)
    (omega (arith, read.count, c.if-mantissa-eq0.false))))
