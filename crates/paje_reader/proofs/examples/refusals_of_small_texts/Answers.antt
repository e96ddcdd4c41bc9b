use Rattle.std.proofs.Common.{refl}
use Rattle.std.specs.Char.{encode_utf8}
use Rattle.std.specs.Str.{is_utf8, chars}
use Rattle.std.specs.Str.Lossy.{utf8_valid_len}
use Rattle.paje_reader.proofs.examples.refusals_of_small_texts.Goals as goal

pub returns-clause-none : goal.returns-clause-none
unfolding is_utf8 chars encode_utf8 utf8_valid_len
returns-clause-none c = refl

pub returns-clause-alone : goal.returns-clause-alone
unfolding is_utf8 chars encode_utf8 utf8_valid_len
returns-clause-alone c = refl

pub returns-clause-not_text : goal.returns-clause-not_text
unfolding is_utf8 chars encode_utf8 utf8_valid_len
returns-clause-not_text c = refl

pub returns-clause-open_ : goal.returns-clause-open_
unfolding is_utf8 chars encode_utf8 utf8_valid_len
returns-clause-open_ c = refl

pub returns-clause-nested : goal.returns-clause-nested
unfolding is_utf8 chars encode_utf8 utf8_valid_len
returns-clause-nested c = refl
