-- What a line of a trace text tells behind the lines before it, and why it is refused.
use Rattle.std.specs.Prelude.{ℕ, List, [], ◌∷◌, filter_map, Option, Some, None, Result, Ok, Err}
use Rattle.std.specs.Prelude.{is_some}
use Rattle.std.specs.Option.{option_map}
use Rattle.paje_defs.specs.declared.event_fault.EventFault.{EventFault}
use Rattle.paje_defs.specs.Events.{Event, message_size, role_text, size_in, told_event}
use Rattle.paje_defs.specs.Lines.{Line, begun_in, complete_in, definition_reason}
use Rattle.paje_defs.specs.Refusals.{Placed, first_of, placed, when}
use Rattle.paje_lines.specs.EventLine.{EventLine}
use Rattle.paje_lines.specs.Reasons.{event_reason}
use Rattle.paje_reader.specs.declared.why.Why.{Why}
use Rattle.paje_reader.specs.declared.why.Why.TheVariants as why
use Rattle.paje_reader.specs.Why.{why_of_definition, why_of_entity, why_of_event}
use Rattle.paje_reader.specs.TextLines.{Reading, TextLine, defines, reading, refused, skipped, tells}

-- ---- the definition lines

abbrev pub definition_line : ℕ → Reading → Option Line
definition_line number (defines words) = Some (record { number = number; words = words })
definition_line number (tells words) = None
definition_line number (refused why) = None
definition_line number skipped = None

abbrev pub definition_lines : List TextLine → List Line
definition_lines lines = filter_map (λ line. definition_line line.number (reading line)) lines

-- ---- the event lines

-- what an event line of these words tells
abbrev pub event_line : ℕ → List (List ℕ) → Event → EventLine
event_line number words event = record {
  number = number;
  event = event.definition.event;
  time = event.time;
  size = message_size event.definition.event (size_in event.definition words);
  text = role_text event.definition words;
}

-- where it tells an event
abbrev pub event_line_of : ℕ → List (List ℕ) → Result Event EventFault → Option EventLine
event_line_of number words (Ok event) = Some (event_line number words event)
event_line_of number words (Err fault) = None

-- under the definitions of the lines before it
abbrev pub told_behind : List TextLine → List (List ℕ) → Result Event EventFault
told_behind before words = told_event (complete_in (definition_lines before)) words

abbrev pub event_line_behind : List TextLine → ℕ → Reading → Option EventLine
event_line_behind before number (tells words) = event_line_of number words (told_behind before words)
event_line_behind before number (defines words) = None
event_line_behind before number (refused why) = None
event_line_behind before number skipped = None

abbrev pub event_line_at : Placed TextLine → Option EventLine
event_line_at p = event_line_behind p.before p.line.number (reading p.line)

abbrev pub event_lines : List TextLine → List EventLine
event_lines lines = filter_map event_line_at (placed lines)

-- ---- why a line is refused

abbrev pub definition_why : List TextLine → List (List ℕ) → Option Why
definition_why before words = option_map why_of_definition (definition_reason
    (complete_in (definition_lines before)) (begun_in (definition_lines before)) words)

abbrev pub told_why : List TextLine → ℕ → List (List ℕ) → Result Event EventFault → Option Why
told_why before number words (Err fault) = Some (why_of_event fault)
told_why before number words (Ok event) = option_map why_of_entity
    (event_reason (event_lines before) (event_line number words event))

-- No event line stands inside a definition.
abbrev pub event_why : List TextLine → ℕ → List (List ℕ) → Option Why
event_why before number words = first_of (
    when (is_some (begun_in (definition_lines before))) why.Unended
    ∷ told_why before number words (told_behind before words) ∷ [])

abbrev pub why_behind : List TextLine → ℕ → Reading → Option Why
why_behind before number skipped = None
why_behind before number (refused why) = Some why
why_behind before number (defines words) = definition_why before words
why_behind before number (tells words) = event_why before number words

-- by the lines before it
abbrev pub line_why : Placed TextLine → Option Why
line_why p = why_behind p.before p.line.number (reading p.line)
