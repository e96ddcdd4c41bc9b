-- The lines of a trace text, and what each is by itself.
use Rattle.std.specs.Prelude.{ℕ, nat_lt, List, [], ◌∷◌, map, length, Ok, Err, Result, if◌then◌else◌}
use Rattle.std.specs.Char.{is_newline}
use Rattle.std.specs.List.{enumerate_from, slice_split}
use Rattle.std.specs.Str.Lines.{strip_carriage_return}
use Rattle.trace_base.specs.declared.limits.TheConstants.{MAX_TRACE_LINE}
use Rattle.paje_lex.specs.declared.lex_fault.LexFault.{LexFault}
use Rattle.paje_lex.specs.declared.token.Token.{Token}
use Rattle.paje_lex.specs.LineKinds.{is_definition_line, is_skipped_line}
use Rattle.paje_lex.specs.LineReading.{lexed}
use Rattle.paje_defs.specs.Words.{words_at_tokens}
use Rattle.paje_reader.specs.declared.why.Why.{Why}
use Rattle.paje_reader.specs.declared.why.Why.TheVariants as why
use Rattle.paje_reader.specs.Why.{why_of_lexing}

-- its number, counted from 1, and its bytes without the newline
pub record TextLine : Type 0 where
  pub number : ℕ
  pub bytes : List ℕ

-- the last part is a line only where it isn't empty
abbrev pub parts_as_lines : List (List ℕ) → List (List ℕ)
parts_as_lines [] = []
parts_as_lines ([] ∷ []) = []
parts_as_lines ((byte ∷ part) ∷ []) = (byte ∷ part) ∷ []
parts_as_lines (part ∷ next ∷ more) = part ∷ parts_as_lines (next ∷ more)

-- the lines of a text, which is cut at each newline
abbrev pub bytes_of_lines : List ℕ → List (List ℕ)
bytes_of_lines text = parts_as_lines (slice_split is_newline text)

abbrev pub text_line : ℕ × List ℕ → TextLine
text_line p = record { number = p.0; bytes = p.1 }

-- with their numbers
abbrev pub lines_in : List ℕ → List TextLine
lines_in text = map text_line (enumerate_from 1 (bytes_of_lines text))

-- ---- each line by itself

-- A line is skipped, or refused whatever stands before it, or it is a definition line or an event line with
-- these words.
pub data Reading : Type 0 where
  skipped : Reading
  refused : Why → Reading
  defines : List (List ℕ) → Reading
  tells : List (List ℕ) → Reading

-- a line of these bytes, which have these tokens
abbrev pub reading_of_tokens : List ℕ → Result (List Token) LexFault → Reading
reading_of_tokens bytes (Ok tokens) = if is_definition_line bytes then defines (words_at_tokens bytes tokens)
    else tells (words_at_tokens bytes tokens)
reading_of_tokens bytes (Err fault) = refused (why_of_lexing fault)

-- without the carriage return at its end
abbrev pub reading_of_bytes : List ℕ → Reading
reading_of_bytes bytes = if is_skipped_line bytes then skipped else reading_of_tokens bytes (lexed bytes)

-- its length is looked at with that carriage return
abbrev pub reading : TextLine → Reading
reading line = if nat_lt MAX_TRACE_LINE (length line.bytes) then refused why.LongLine
    else reading_of_bytes (strip_carriage_return line.bytes)
