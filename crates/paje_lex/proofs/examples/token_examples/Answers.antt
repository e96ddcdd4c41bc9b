use Rattle.std.proofs.Common.{[], ◌∷◌, codes}
use Rattle.std.specs.Str.{is_utf8, chars}
use Rattle.std.specs.Char.{encode_utf8}
use Rattle.std.specs.Str.Lossy.{utf8_valid_len}
use Rattle.paje_lex.proofs.LineLaws.{lexed_found}
use Rattle.paje_lex.proofs.examples.token_examples.Goals as goal

pub returns-clause-spaced : goal.returns-clause-spaced
unfolding is_utf8 chars encode_utf8 utf8_valid_len
returns-clause-spaced c = lexed_found (codes "4 0.1\tS  p0 ")

pub returns-clause-definition : goal.returns-clause-definition
unfolding is_utf8 chars encode_utf8 utf8_valid_len
returns-clause-definition c = lexed_found (codes " \t%EventDef X 4")

pub returns-clause-field : goal.returns-clause-field
unfolding is_utf8 chars encode_utf8 utf8_valid_len
returns-clause-field c = lexed_found (codes "% Time date")

pub returns-clause-none : goal.returns-clause-none
unfolding is_utf8 chars encode_utf8 utf8_valid_len
returns-clause-none c = lexed_found (codes "%")

pub returns-clause-percent : goal.returns-clause-percent
unfolding is_utf8 chars encode_utf8 utf8_valid_len
returns-clause-percent c = lexed_found (codes "5 %a")

pub returns-clause-quoted : goal.returns-clause-quoted
unfolding is_utf8 chars encode_utf8 utf8_valid_len
returns-clause-quoted c = lexed_found (codes "2 \"rank 0\" x")

pub returns-clause-empty : goal.returns-clause-empty
unfolding is_utf8 chars encode_utf8 utf8_valid_len
returns-clause-empty c = lexed_found (codes "\"\"\"\"")

pub returns-clause-joined : goal.returns-clause-joined
unfolding is_utf8 chars encode_utf8 utf8_valid_len
returns-clause-joined c = lexed_found (codes "\"a\"b\"c\"")

pub returns-clause-inside : goal.returns-clause-inside
unfolding is_utf8 chars encode_utf8 utf8_valid_len
returns-clause-inside c = lexed_found (codes "a\"b c")

pub returns-clause-return_ : goal.returns-clause-return_
unfolding is_utf8 chars encode_utf8 utf8_valid_len
returns-clause-return_ c = lexed_found (codes "a\r b")

pub returns-clause-open_ : goal.returns-clause-open_
unfolding is_utf8 chars encode_utf8 utf8_valid_len
returns-clause-open_ c = lexed_found (codes "a \"b")

pub returns-clause-open_later : goal.returns-clause-open_later
unfolding is_utf8 chars encode_utf8 utf8_valid_len
returns-clause-open_later c = lexed_found (codes "\"a\"\" b")

pub returns-clause-open_definition : goal.returns-clause-open_definition
unfolding is_utf8 chars encode_utf8 utf8_valid_len
returns-clause-open_definition c = lexed_found (codes "%\"")

pub returns-clause-text : goal.returns-clause-text
unfolding is_utf8 chars encode_utf8 utf8_valid_len
returns-clause-text c = lexed_found (97 ∷ 195 ∷ 169 ∷ [])

pub returns-clause-not_text : goal.returns-clause-not_text
unfolding is_utf8 chars encode_utf8 utf8_valid_len
returns-clause-not_text c = lexed_found (97 ∷ 255 ∷ 34 ∷ [])

pub returns-clause-text_cut : goal.returns-clause-text_cut
unfolding is_utf8 chars encode_utf8 utf8_valid_len
returns-clause-text_cut c = lexed_found (195 ∷ 169 ∷ 195 ∷ [])
