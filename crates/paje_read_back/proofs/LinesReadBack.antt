-- The lines of a canonical text, and how the reader takes each.
use Rattle.std.proofs.Common.{◌≡◌, ℕ, List, [], ◌∷◌, All, ap, map}
use Rattle.std.proofs.lemmas.List.Elements.{All-from_recursion, recursion_from_All}
use Rattle.std.specs.List.{AllByRecursion, enumerate_from}
use Rattle.list_lemmas.proofs.Each.{all_append, all_second}
use Rattle.trace_base.specs.declared.text.TraceText.{TraceText}
use Rattle.paje_print.specs.Canonical.{FitsOnLine, IsCanonical}
use Rattle.paje_print.specs.CanonicalText.{canonical_lines, canonical_text, event_lines_written}
use Rattle.paje_print.specs.WrittenEvents.{definitions_written}
use Rattle.paje_print.specs.WrittenWords.{WrittenLine, bare, line_text, quoted}
use Rattle.paje_reader.specs.TextLines.{lines_in, reading, tells, text_line}
use Rattle.paje_read_back.proofs.LinesCut.{written_lines-cut}
use Rattle.paje_read_back.proofs.LinesOfDefinitions.{definitions-words}
use Rattle.paje_read_back.proofs.LinesWellWritten.{AreEventLines, event_lines-written}
use Rattle.paje_read_back.proofs.WordBytes.{word_bytes}
use Rattle.paje_read_back.proofs.WordsRead.{IsEventLine, event_line-told}
use Rattle.paje_read_back.proofs.WordsWellWritten.{AreWellWritten}

-- ---- the text is cut into its lines

event_line-words : (line : WrittenLine) → IsEventLine line → AreWellWritten line
event_line-words [] is = absurd is
event_line-words (quoted bytes ∷ words) is = absurd is
event_line-words (bare [] ∷ words) is = absurd is
event_line-words (bare (b ∷ bytes) ∷ words) (digit, are) = are

event_lines-words : (lines : List WrittenLine) → AreEventLines lines → AllByRecursion AreWellWritten lines
event_lines-words [] are = tt
event_lines-words (line ∷ lines) (is, are) = (event_line-words line is, event_lines-words lines are)

canonical-words : (t : TraceText) → IsCanonical t → AllByRecursion AreWellWritten (canonical_lines t)
canonical-words t is =
    all_append AreWellWritten definitions_written (event_lines_written t)
    definitions-words
    (event_lines-words (event_lines_written t) (event_lines-written t is))

-- The lines of a canonical text are those that it is written of.
pub lines-cut : (t : TraceText) → IsCanonical t
    → lines_in (canonical_text t) ≡ map text_line (enumerate_from 1 (map line_text (canonical_lines t)))
unfolding canonical_text
lines-cut t is =
    ap (λ lines. map text_line (enumerate_from 1 lines))
    (written_lines-cut (canonical_lines t) (canonical-words t is))

-- ---- its event lines

-- whatever its number is, the line is read as its words
abbrev TellsItsWords : WrittenLine → Type 0
TellsItsWords line = (n : ℕ) → reading (text_line (n, line_text line)) ≡ tells (map word_bytes line)

each-tells : (lines : List WrittenLine) → AreEventLines lines → AllByRecursion FitsOnLine lines
    → AllByRecursion TellsItsWords lines
each-tells [] are fit = tt
each-tells (line ∷ lines) (is, are) (fits, fit) =
    ((λ n. event_line-told n line is fits), each-tells lines are fit)

each-event_line_read : (t : TraceText) → IsCanonical t
    → AllByRecursion TellsItsWords (event_lines_written t)
each-event_line_read t is =
    each-tells (event_lines_written t) (event_lines-written t is)
    (all_second FitsOnLine definitions_written (event_lines_written t)
    (recursion_from_All FitsOnLine (canonical_lines t) is.limits.lines))

-- Each event line is read as its words.
pub event-line-read : (t : TraceText) → IsCanonical t
    → All (λ line. (n : ℕ) → reading (text_line (n, line_text line)) ≡ tells (map word_bytes line))
    (event_lines_written t)
event-line-read t is =
    All-from_recursion TellsItsWords (event_lines_written t) (each-event_line_read t is)
