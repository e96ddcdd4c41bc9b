-- Lines as their bytes, for the examples.
use Rattle.std.specs.Prelude.{ℕ, ◌+◌, List, [], ◌∷◌, length, drop, filter, map, codes, nat_lt, Option, Ok}
use Rattle.std.specs.Prelude.{Err, Result}
use Rattle.std.specs.List.{slice_split}
use Rattle.std.specs.Option.{option_map}
use Rattle.paje_lex.specs.LineKinds.{is_blank, tokens_start}
use Rattle.paje_defs.specs.declared.field_name.FieldName.{FieldName}
use Rattle.paje_defs.specs.declared.field_type.FieldType.{FieldType}
use Rattle.paje_defs.specs.declared.event_name.EventName.{EventName}
use Rattle.paje_defs.specs.declared.role.Role.{Role}
use Rattle.paje_defs.specs.declared.field.Field.{Field}
use Rattle.paje_defs.specs.declared.definition.Definition.{Definition}
use Rattle.paje_defs.specs.declared.event_fault.EventFault.{EventFault}
use Rattle.paje_defs.specs.Lines.{Definitions, Line, definitions_of_lines}
use Rattle.paje_defs.specs.Refusals.{first_refused}
use Rattle.paje_defs.specs.Lines.{definition_reason_at}
use Rattle.paje_defs.specs.Events.{Event, told_event, role_text, size_in, message_size}

-- the words of a line without quotes
abbrev pub plain_words : List ℕ → List (List ℕ)
plain_words line = filter (λ word. nat_lt 0 (length word))
    (slice_split is_blank (drop (tokens_start line) line))

abbrev pub numbered_from : ℕ → List (List ℕ) → List Line
numbered_from n [] = []
numbered_from n (line ∷ lines) = record { number = n; words = plain_words line } ∷ numbered_from (n + 1) lines

-- these lines, numbered from 1
abbrev pub numbered : List (List ℕ) → List Line
numbered lines = numbered_from 1 lines

abbrev pub definitions_in : List (List ℕ) → Definitions
definitions_in lines = definitions_of_lines (numbered lines)

-- the number of the first refused line
abbrev pub refused_line : List (List ℕ) → Option ℕ
refused_line lines = option_map (λ p. p.line.number) (first_refused definition_reason_at (numbered lines))

abbrev pub defined : ℕ → ℕ → EventName → List Field → ℕ × Definition
defined number line event fields = (number, record { line = line; event = event; fields = fields })

abbrev pub field_as : FieldName → FieldType → Field
field_as name kind = record { name = name; kind = kind }

-- what an event line tells of its time, its size and some roles, under the definitions of these lines
abbrev pub seen_of : List Role → List (List ℕ) → Result Event EventFault
    → Result (ℕ × ℕ × List (Option (List ℕ))) EventFault
seen_of roles words (Err f) = Err f
seen_of roles words (Ok e) = Ok (
  e.time,
  message_size e.definition.event (size_in e.definition words),
  map (role_text e.definition words) roles,
)

abbrev pub told_of : List (List ℕ) → List Role → List ℕ → Result (ℕ × ℕ × List (Option (List ℕ))) EventFault
told_of lines roles line = seen_of roles (plain_words line)
    (told_event (definitions_in lines).complete (plain_words line))

-- two definitions of links in different orders, with an additional field; two of destroyed containers, one
-- without their name; and one of state types, which has no time
abbrev pub event_definitions : List (List ℕ)
event_definitions =
    codes "%EventDef PajeStartLink 7" ∷ codes "% Time string" ∷ codes "% Kind hex" ∷
    codes "% Type string" ∷ codes "% SourceContainer string" ∷ codes "% StartContainer string" ∷
    codes "% Key string" ∷ codes "% Size int" ∷ codes "%EndEventDef" ∷ codes "%EventDef PajeStartLink 8" ∷
    codes "% Key string" ∷ codes "% Type string" ∷ codes "% Size string" ∷
    codes "% StartContainer string" ∷ codes "% Time date" ∷ codes "%EndEventDef" ∷
    codes "%EventDef PajeDestroyContainer 9" ∷ codes "% Container string" ∷ codes "% Time double" ∷
    codes "% Name string" ∷ codes "%EndEventDef" ∷ codes "%EventDef PajeDestroyContainer 10" ∷
    codes "% Container string" ∷ codes "% Time date" ∷ codes "%EndEventDef" ∷
    codes "%EventDef PajeDefineStateType 11" ∷ codes "% Name string" ∷ codes "% ContainerType string" ∷
    codes "%EndEventDef" ∷ []
