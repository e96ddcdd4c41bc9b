use Rattle.std.proofs.Common.{refl}
use Rattle.std.specs.Char.{encode_utf8}
use Rattle.std.specs.Str.{is_utf8, chars}
use Rattle.std.specs.Str.Lossy.{utf8_valid_len}
use Rattle.paje_lex.specs.DateReading.{parts_of, exponent_of}
use Rattle.paje_reader.proofs.examples.refusals_of_event_texts.Goals as goal

pub returns-clause-empty_pop : goal.returns-clause-empty_pop
unfolding is_utf8 chars encode_utf8 utf8_valid_len parts_of exponent_of
returns-clause-empty_pop c = refl

pub returns-clause-double_alias : goal.returns-clause-double_alias
unfolding is_utf8 chars encode_utf8 utf8_valid_len parts_of exponent_of
returns-clause-double_alias c = refl

pub returns-clause-reasons : goal.returns-clause-reasons
unfolding is_utf8 chars encode_utf8 utf8_valid_len parts_of exponent_of
returns-clause-reasons c = refl

pub returns-clause-inside : goal.returns-clause-inside
unfolding is_utf8 chars encode_utf8 utf8_valid_len parts_of exponent_of
returns-clause-inside c = refl
