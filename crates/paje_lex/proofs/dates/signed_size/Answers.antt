use Rattle.std.proofs.Common.{sym, ap, ◌∙◌, refl}
use Rattle.paje_lex.specs.DateReading.{sign_len}
use Rattle.paje_lex.proofs.DateLemmas.{signed_some, signed_none, slice_behind, exponent_number}
use Rattle.paje_lex.proofs.dates.signed_size.Goals as goal

pub returns-then-is_negative-clause-tens : goal.returns-then-is_negative-clause-tens
returns-then-is_negative-clause-tens c =
    let bs = c.args.text.now in
    let e = signed_some bs c.in-Some.size
    (c.in-Some.ensures.size ∙ ap exponent_number
    (slice_behind c.sign_length.result (sign_len bs) bs c.sign_length.ensures)) in
    sym (e ∙ rw (← c.is_negative.ensures, c.if-is_negative.true) refl)

pub returns-clause-tens : goal.returns-clause-tens
returns-clause-tens c =
    let bs = c.args.text.now in
    let e = signed_some bs c.in-Some.size
    (c.in-Some.ensures.size ∙ ap exponent_number
    (slice_behind c.sign_length.result (sign_len bs) bs c.sign_length.ensures)) in
    sym (e ∙ rw (← c.is_negative.ensures, c.if-is_negative.false) refl)

pub returns-in_default-clause-tens : goal.returns-in_default-clause-tens
returns-in_default-clause-tens c =
    let bs = c.args.text.now in
    sym (signed_none bs (c.in_default.ensures.size ∙ ap exponent_number
    (slice_behind c.sign_length.result (sign_len bs) bs c.sign_length.ensures)))
