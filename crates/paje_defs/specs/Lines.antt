-- What the definition lines of a trace make known: facts of the list of its lines, each found in the whole
-- list.
use Rattle.std.specs.Prelude.{ℕ, ◌||◌, List, [], ◌∷◌, codes, filter, filter_map, slice_get, nat_eq}
use Rattle.std.specs.Prelude.{Bool, false, Option, None, is_some, is_none, if◌then◌else◌}
use Rattle.std.specs.List.{after_last, last_or}
use Rattle.std.specs.Map.{lookup}
use Rattle.std.specs.Option.{option_and_then, option_map, option_map_or, option_zip}
use Rattle.std.specs.Str.{bytes_eq}
use Rattle.paje_defs.specs.declared.event_name.EventName.{EventName}
use Rattle.paje_defs.specs.declared.field_name.FieldName.{FieldName}
use Rattle.paje_defs.specs.declared.field_name.FieldName.TheVariants.{Other}
use Rattle.paje_defs.specs.declared.field_type.FieldType.{FieldType}
use Rattle.paje_defs.specs.declared.field.Field.{Field}
use Rattle.paje_defs.specs.declared.definition.Definition.{Definition}
use Rattle.paje_defs.specs.declared.begun.Begun.{Begun}
use Rattle.paje_defs.specs.declared.def_fault.DefFault.{DefFault}
use Rattle.paje_defs.specs.declared.def_fault.DefFault.TheVariants.{Shape, Nested, UnknownName, DoubleNumber}
use Rattle.paje_defs.specs.declared.def_fault.DefFault.TheVariants.{UnknownType, MissingField}
use Rattle.paje_defs.specs.EventName.{event_name_of}
use Rattle.paje_defs.specs.FieldName.{field_name_of}
use Rattle.paje_defs.specs.FieldType.{type_of}
use Rattle.paje_defs.specs.Numbers.{event_number_of}
use Rattle.paje_defs.specs.Definition.{missing}
use Rattle.paje_defs.specs.Refusals.{Placed, first_of, placed, refusal, taken, when}

-- a definition line: its number in the text, and its words behind the %
pub record Line : Type 0 where
  pub number : ℕ
  pub words : List (List ℕ)

-- ---- the kinds of line, by its words

abbrev pub opens_with : List ℕ → List (List ℕ) → Bool
opens_with name words = option_map_or (λ word. bytes_eq word name) (slice_get words 0) false

-- `%EventDef name number`
abbrev pub begins_definition : List (List ℕ) → Bool
begins_definition words = opens_with (codes "EventDef") words

-- `%EndEventDef`
abbrev pub ends_definition : List (List ℕ) → Bool
ends_definition words = opens_with (codes "EndEventDef") words

-- ---- what is written on a line that begins a definition, or adds a field

abbrev pub defined_event : List (List ℕ) → Option EventName
defined_event words = option_and_then event_name_of (slice_get words 1)

abbrev pub defined_number : List (List ℕ) → Option ℕ
defined_number words = option_and_then event_number_of (slice_get words 2)

abbrev pub field_name : List (List ℕ) → FieldName
field_name words = option_map_or field_name_of (slice_get words 0) Other

abbrev pub field_type : List (List ℕ) → Option FieldType
field_type words = option_and_then type_of (slice_get words 1)

abbrev pub field_of : List (List ℕ) → Option Field
field_of words = option_map (λ kind. record { name = field_name words; kind = kind }) (field_type words)

-- ---- which definition is begun and not ended

abbrev pub borders : Line → Bool
borders line = begins_definition line.words || ends_definition line.words

-- a definition of the number and the event of a line, with these fields
abbrev pub defined_by : List Field → Line → Option Begun
defined_by fields line =
    option_map (λ both. record {
      number = both.0;
      definition = record {
        line = line.number;
        event = both.1;
        fields = fields;
      };
    })
    (option_zip (defined_number line.words) (defined_event line.words))

abbrev pub begun_by : List Field → Line → Option Begun
begun_by fields line = if begins_definition line.words then defined_by fields line else None

-- that of the last line that begins or ends one, if it begins one; its fields are those of the lines behind
-- it, in order
abbrev pub begun_in : List Line → Option Begun
begun_in lines =
    option_and_then (begun_by (filter_map (λ line. field_of line.words) (after_last borders lines)))
    (last_or None (filter borders lines))

-- ---- which definitions are complete

-- its definition, by its number
abbrev pub definition_entry : Begun → ℕ × Definition
definition_entry b = (b.number, b.definition)

-- the definition that a line ends
abbrev pub ended_at : Placed Line → Option (ℕ × Definition)
ended_at p = if ends_definition p.line.words then option_map definition_entry (begun_in p.before) else None

-- the definitions that have an end, in the order of their ends
abbrev pub complete_in : List Line → List (ℕ × Definition)
complete_in lines = filter_map ended_at (placed lines)

abbrev pub definition_of : List (ℕ × Definition) → ℕ → Option Definition
definition_of entries number = lookup (λ k. nat_eq number k) entries

-- the line that begins the definition of a number, where it is complete
abbrev pub first_line : List (ℕ × Definition) → ℕ → Option ℕ
first_line entries number = option_map (λ d. d.line) (definition_of entries number)

-- ---- why a line is refused

abbrev pub begin_reason : List (ℕ × Definition) → Option Begun → List (List ℕ) → Option DefFault
begin_reason complete begun words = first_of (
    when (is_none (defined_number words)) Shape
    ∷ when (is_some begun) Nested
    ∷ when (is_none (defined_event words)) UnknownName
    ∷ option_map (λ first. DoubleNumber first) (option_and_then (first_line complete) (defined_number words))
    ∷ [])

abbrev pub field_reason : Option Begun → List (List ℕ) → Option DefFault
field_reason begun words = first_of (
    when (is_none (slice_get words 1)) Shape
    ∷ when (is_none begun) Shape
    ∷ when (is_none (field_type words)) UnknownType ∷ [])

abbrev pub end_reason : Option Begun → Option DefFault
end_reason begun = first_of (
    when (is_none begun) Shape
    ∷ option_map (λ role. MissingField role)
    (option_and_then (λ b. missing b.definition.event b.definition.fields) begun) ∷ [])

-- by which definitions are complete, and which is begun
abbrev pub definition_reason : List (ℕ × Definition) → Option Begun → List (List ℕ) → Option DefFault
definition_reason complete begun words = if begins_definition words then begin_reason complete begun words
    else (if ends_definition words then end_reason begun else field_reason begun words)

-- by the lines before it
abbrev pub definition_reason_at : Placed Line → Option DefFault
definition_reason_at p = definition_reason (complete_in p.before) (begun_in p.before) p.line.words

-- ---- what is known

-- which definitions are complete, by their numbers; which is begun and not ended; and the first refusal
pub record Definitions : Type 0 where
  pub complete : List (ℕ × Definition)
  pub begun : Option Begun
  pub fault : Option DefFault

-- A refused line adds nothing, nor does any behind it.
abbrev pub definitions_of_lines : List Line → Definitions
definitions_of_lines lines = record {
  complete = complete_in (taken definition_reason_at lines);
  begun = begun_in (taken definition_reason_at lines);
  fault = refusal definition_reason_at lines;
}
