use Rattle.std.proofs.Common.{refl}
use Rattle.std.specs.Char.{encode_utf8}
use Rattle.std.specs.Str.{is_utf8, chars}
use Rattle.std.specs.Str.Lossy.{utf8_valid_len}
use Rattle.paje_reader.proofs.examples.small_lines_alone.Goals as goal

pub returns-clause-event : goal.returns-clause-event
unfolding is_utf8 chars encode_utf8 utf8_valid_len
returns-clause-event c = refl

pub returns-clause-one_return : goal.returns-clause-one_return
unfolding is_utf8 chars encode_utf8 utf8_valid_len
returns-clause-one_return c = refl

pub returns-clause-definition : goal.returns-clause-definition
unfolding is_utf8 chars encode_utf8 utf8_valid_len
returns-clause-definition c = refl

pub returns-clause-empty_definition : goal.returns-clause-empty_definition
unfolding is_utf8 chars encode_utf8 utf8_valid_len
returns-clause-empty_definition c = refl

pub returns-clause-open_quote : goal.returns-clause-open_quote
unfolding is_utf8 chars encode_utf8 utf8_valid_len
returns-clause-open_quote c = refl

pub returns-clause-not_text : goal.returns-clause-not_text
unfolding is_utf8 chars encode_utf8 utf8_valid_len
returns-clause-not_text c = refl
