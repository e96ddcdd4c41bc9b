-- What a trace text says, or why it is refused.
use Rattle.std.specs.Prelude.{◌≡◌, ℕ, ◌+◌, ◌⊎◌, List, length, Option}
use Rattle.std.specs.Prelude.{None, Some, Result, MatchResult, is_some}
use Rattle.std.specs.Option.{option_and_then, option_map, option_or}
use Rattle.trace_base.specs.declared.text.TraceText.{TraceText}
use Rattle.paje_defs.specs.Lines.{begun_in}
use Rattle.paje_defs.specs.Refusals.{Placed, first_refused, when}
use Rattle.paje_lines.specs.Text.{text_said}
use Rattle.paje_reader.specs.declared.read_fault.ReadFault.{ReadFault}
use Rattle.paje_reader.specs.declared.read_fault.ReadFault.TheVariants.{Memory, Refused}
use Rattle.paje_reader.specs.declared.read_fault.ReadRefusal.{ReadRefusal}
use Rattle.paje_reader.specs.declared.why.Why.TheVariants as why
use Rattle.paje_reader.specs.LineReasons.{definition_lines, event_lines, line_why}
use Rattle.paje_reader.specs.TextLines.{TextLine, lines_in}

abbrev pub refusal_at : Placed TextLine → Option ReadRefusal
refusal_at p = option_map (λ why. record { line = p.line.number; why = why }) (line_why p)

-- A definition that is open behind all lines is refused on the line that would come next.
abbrev pub end_refusal : List TextLine → Option ReadRefusal
end_refusal lines = when (is_some (begun_in (definition_lines lines)))
    (record { line = length lines + 1; why = why.Unended })

-- the first refused line, else an open definition
abbrev pub lines_refusal : List TextLine → Option ReadRefusal
lines_refusal lines = option_or (option_and_then refusal_at (first_refused line_why lines))
    (end_refusal lines)

abbrev pub text_refusal : List ℕ → Option ReadRefusal
text_refusal text = lines_refusal (lines_in text)

-- what the text says where it isn't refused
abbrev pub trace_in : List ℕ → TraceText
trace_in text = text_said (event_lines (lines_in text))

-- The text isn't refused, and says this.
abbrev pub Says : List ℕ → TraceText → Type 0
Says text trace = (text_refusal text ≡ None) × (trace ≡ trace_in text)

-- The text's trace, or its refusal. Want of memory is free.
abbrev pub Reads : List ℕ → Result TraceText ReadFault → Type 0
Reads text r = MatchResult r (Says text)
    (λ fault. (fault ≡ Memory) ⊎ ((refusal : ReadRefusal) × (fault ≡ Refused refusal)
    × (text_refusal text ≡ Some refusal)))
