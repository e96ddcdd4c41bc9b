use Rattle.std.proofs.Common.{refl}
use Rattle.std.specs.Char.{encode_utf8}
use Rattle.std.specs.Str.{is_utf8, chars}
use Rattle.std.specs.Str.Lossy.{utf8_valid_len}
use Rattle.paje_lex.specs.DateReading.{parts_of, exponent_of}
use Rattle.paje_reader.proofs.examples.first_reasons_of_lines.Goals as goal

pub returns-clause-alone : goal.returns-clause-alone
unfolding is_utf8 chars encode_utf8 utf8_valid_len parts_of exponent_of
returns-clause-alone c = refl

pub returns-clause-inside : goal.returns-clause-inside
unfolding is_utf8 chars encode_utf8 utf8_valid_len parts_of exponent_of
returns-clause-inside c = refl

pub returns-clause-events : goal.returns-clause-events
unfolding is_utf8 chars encode_utf8 utf8_valid_len parts_of exponent_of
returns-clause-events c = refl
