use Rattle.paje_lex.specs.DateReading.{sign_len}
use Rattle.paje_lex.proofs.DateLemmas.{slice_behind, told_of_body}
use Rattle.paje_lex.proofs.dates.read_mantissa.Goals as goal

pub returns-clause-read : goal.returns-clause-read
returns-clause-read c =
    let text = c.args.text.now in
    let read = c.read_digits.ensures in
    told_of_body text _ c.read_digits.result
    (slice_behind c.sign_length.result (sign_len text) text c.sign_length.ensures) read.number read.count
    read.places read.rest
