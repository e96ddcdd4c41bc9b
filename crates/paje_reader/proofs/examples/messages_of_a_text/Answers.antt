use Rattle.std.proofs.Common.{refl}
use Rattle.std.specs.Char.{encode_utf8}
use Rattle.std.specs.Str.{is_utf8, chars}
use Rattle.std.specs.Str.Lossy.{utf8_valid_len}
use Rattle.paje_lex.specs.DateReading.{parts_of, exponent_of}
use Rattle.paje_reader.proofs.examples.messages_of_a_text.Goals as goal

pub returns-clause-refused : goal.returns-clause-refused
unfolding is_utf8 chars encode_utf8 utf8_valid_len parts_of exponent_of
returns-clause-refused c = refl

pub returns-clause-said : goal.returns-clause-said
unfolding is_utf8 chars encode_utf8 utf8_valid_len parts_of exponent_of
returns-clause-said c = refl
