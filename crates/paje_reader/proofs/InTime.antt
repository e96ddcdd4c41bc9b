-- No event line of a text is past the greatest time.
use Rattle.std.proofs.Common.{◌≡◌, ℕ, ◌≤◌, Bool, true, false, List, length}
use Rattle.std.proofs.Common.{nat_lt}
use Rattle.std.proofs.Common.{slice_get, Option, Some, None, IfSome, Result, Ok, Err, cond, refl}
use Rattle.std.proofs.Common.{ap, subst}
use Rattle.std.proofs.Common.{arith}
use Rattle.std.specs.Option.{option_and_then}
use Rattle.list_lemmas.proofs.All.{All-told}
use Rattle.trace_base.specs.declared.limits.TheConstants.{MAX_TIME}
use Rattle.paje_lex.specs.declared.date_fault.DateFault.{DateFault}
use Rattle.paje_lex.proofs.DatesInTime.{date-in_time}
use Rattle.paje_defs.specs.declared.definition.Definition.{Definition}
use Rattle.paje_defs.specs.declared.event_fault.EventFault.{EventFault}
use Rattle.paje_defs.specs.declared.event_fault.EventFault.TheVariants as faults
use Rattle.paje_defs.specs.declared.role.Role.TheVariants as roles
use Rattle.paje_defs.specs.Events.{Event, event_numbered, event_under, role_text, time_of_text, timed}
use Rattle.paje_defs.specs.Lines.{complete_in, definition_of}
use Rattle.paje_defs.specs.Numbers.{event_number_of}
use Rattle.paje_defs.specs.Refusals.{placed}
use Rattle.paje_lines.specs.EventLine.{AreInTime}
use Rattle.paje_reader.specs.LineReasons.{definition_lines, event_line_at, event_line_behind, event_line_of}
use Rattle.paje_reader.specs.LineReasons.{event_lines}
use Rattle.paje_reader.specs.LineReasons.{told_behind}
use Rattle.paje_reader.specs.TextLines.{Reading, TextLine, defines, reading, refused, skipped, tells}

abbrev IsInTime : Result Event EventFault → Type 0
IsInTime (Ok event) = event.time ≤ MAX_TIME
IsInTime (Err fault) = Unit {0}

abbrev time_or_none : Result ℕ DateFault → ℕ
time_or_none (Ok ns) = ns
time_or_none (Err fault) = 0

text_in_time : (text : Option (List ℕ)) (ns : ℕ) → time_of_text text ≡ Ok ns → ns ≤ MAX_TIME
text_in_time None ns e = subst (λ r. r ≤ MAX_TIME) (ap time_or_none e) (omega arith)
text_in_time (Some text) ns e = date-in_time text ns e

timed_in_time : (d : Definition) (time : Result ℕ DateFault) → ((ns : ℕ) → time ≡ Ok ns → ns ≤ MAX_TIME)
    → IsInTime (timed d time)
timed_in_time d (Ok ns) fits = fits ns refl
timed_in_time d (Err fault) fits = tt

under_in_time : (words : List (List ℕ)) (d : Option Definition) → IsInTime (event_under words d)
under_in_time words None = tt
under_in_time words (Some d) = by (nat_lt (length d.fields) (length words))
  where
    time : Result ℕ DateFault
    time = time_of_text (role_text d words roles.Time)

    by : (b : Bool) → IsInTime (cond b (timed d time) (Err faults.TooFew))
    by true = timed_in_time d time (text_in_time (role_text d words
        roles.Time))
    by false = tt

numbered_in_time : (entries : List (ℕ × Definition)) (words : List (List ℕ)) (number : Option ℕ)
    → IsInTime (event_numbered entries words number)
numbered_in_time entries words None = tt
numbered_in_time entries words (Some number) = under_in_time words (definition_of entries number)

-- ---- the lines

line_in_time : (number : ℕ) (words : List (List ℕ)) (event : Result Event EventFault) → IsInTime event
    → IfSome (event_line_of number words event) (λ line. line.time ≤ MAX_TIME)
line_in_time number words (Ok event) fits = fits
line_in_time number words (Err fault) fits = tt

behind_in_time : (before : List TextLine) (number : ℕ) (r : Reading)
    → IfSome (event_line_behind before number r) (λ line. line.time ≤ MAX_TIME)
behind_in_time before number skipped = tt
behind_in_time before number (refused why) = tt
behind_in_time before number (defines words) = tt
behind_in_time before number (tells words) = line_in_time number words (told_behind before words)
    (numbered_in_time (complete_in (definition_lines before)) words
    (option_and_then event_number_of (slice_get words 0)))

pub events_in_time : (lines : List TextLine) → AreInTime (event_lines lines)
events_in_time lines = All-told event_line_at (λ line. line.time ≤ MAX_TIME)
    (λ p. behind_in_time p.before p.line.number (reading p.line)) (placed lines)
