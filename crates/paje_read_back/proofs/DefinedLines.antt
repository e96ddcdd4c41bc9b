-- The definition lines of a canonical text.
use Rattle.std.proofs.Common.{◌≡◌, ℕ, List, [], ◌∷◌, ◌++◌, Bool, true, false, map, None, refl}
use Rattle.std.proofs.Math.Utf8.{encode}
use Rattle.std.specs.Fmt.{digits}
use Rattle.std.specs.List.{enumerate_from, list_all}
use Rattle.std.specs.Str.{chars, is_utf8}
use Rattle.paje_print.specs.WrittenEvents.{definitions_written}
use Rattle.paje_print.specs.WrittenWords.{WrittenLine, line_text}
use Rattle.paje_defs.specs.declared.definition.Definition.{Definition}
use Rattle.paje_defs.specs.declared.event_name.EventName.{EventName}
use Rattle.paje_defs.specs.declared.event_name.EventName.TheVariants as events
use Rattle.paje_defs.specs.declared.field.Field.{Field}
use Rattle.paje_defs.specs.declared.field_name.FieldName.{FieldName}
use Rattle.paje_defs.specs.declared.field_name.FieldName.TheVariants as names
use Rattle.paje_defs.specs.declared.field_type.FieldType.TheVariants as types
use Rattle.paje_defs.specs.Lines.{Line, begun_in, complete_in, definition_reason_at}
use Rattle.paje_defs.specs.Refusals.{first_refused}
use Rattle.paje_reader.specs.LineReasons.{definition_lines}
use Rattle.paje_reader.specs.TextLines.{Reading, TextLine, defines, reading, refused, skipped, tells}
use Rattle.paje_reader.specs.TextLines.{text_line}
use Rattle.paje_read_back.proofs.WordBytes.{words_of}

-- ---- the lines of a text

abbrev pub written_from : ℕ → List WrittenLine → List TextLine
written_from n lines = map text_line (enumerate_from n (map line_text lines))

abbrev pub definitions_text : List TextLine
definitions_text = written_from 1 definitions_written

-- ---- the words behind the %

abbrev without_percent : List (List ℕ) → List (List ℕ)
without_percent [] = []
without_percent ([] ∷ words) = words
without_percent ((percent ∷ []) ∷ words) = words
without_percent ((percent ∷ byte ∷ bytes) ∷ words) = (byte ∷ bytes) ∷ words

abbrev defined_line : ℕ × WrittenLine → Line
defined_line p = record { number = p.0; words = without_percent (words_of p.1) }

unfoldable pub lines_defined : List Line
lines_defined = map defined_line (enumerate_from 1 definitions_written)

pub lines-defined : definition_lines definitions_text ≡ lines_defined
unfolding definitions_written lines_defined digits is_utf8 chars encode
lines-defined = refl

-- ---- each line defines

abbrev pub is_defining : Reading → Bool
is_defining (defines words) = true
is_defining (tells words) = false
is_defining (refused why) = false
is_defining skipped = false

pub all-defining : list_all (λ line. is_defining (reading line)) definitions_text ≡ true
unfolding definitions_written digits is_utf8 chars encode
all-defining = refl

-- ---- what they define

abbrev text_field : FieldName → Field
text_field name = record { name = name; kind = types.String }

abbrev time_field : Field
time_field = record { name = names.Time; kind = types.Date }

abbrev size_field : Field
size_field = record { name = names.Size; kind = types.Int }

abbrev defined : ℕ → EventName → List Field → Definition
defined line event fields = record { line = line; event = event; fields = fields }

abbrev pub container_type_definition : Definition
container_type_definition = defined 1 events.DefineContainerType
    (map text_field (names.Alias ∷ names.«Type» ∷ names.Name ∷ []))

abbrev pub state_type_definition : Definition
state_type_definition = defined 6 events.DefineStateType
    (map text_field (names.Alias ∷ names.«Type» ∷ names.Name ∷ []))

abbrev pub link_type_definition : Definition
link_type_definition = defined 11 events.DefineLinkType
    (map text_field (names.Alias ∷ names.«Type» ∷ names.StartContainerType ∷ names.EndContainerType
    ∷ names.Name ∷ []))

abbrev pub create_definition : Definition
create_definition = defined 18 events.CreateContainer
    (time_field ∷ map text_field (names.Alias ∷ names.«Type» ∷ names.Container ∷ names.Name ∷ []))

abbrev pub destroy_definition : Definition
destroy_definition = defined 25 events.DestroyContainer
    (time_field ∷ map text_field (names.«Type» ∷ names.Name ∷ []))

abbrev pub push_definition : Definition
push_definition = defined 30 events.PushState
    (time_field ∷ map text_field (names.«Type» ∷ names.Container ∷ names.Value ∷ []))

abbrev pub pop_definition : Definition
pop_definition = defined 36 events.PopState
    (time_field ∷ map text_field (names.«Type» ∷ names.Container ∷ []))

abbrev pub reset_definition : Definition
reset_definition = defined 41 events.ResetState
    (time_field ∷ map text_field (names.«Type» ∷ names.Container ∷ []))

abbrev pub start_definition : Definition
start_definition = defined 46 events.StartLink
    (time_field ∷ map text_field (names.«Type» ∷ names.Container ∷ names.Value ∷ names.StartContainer
    ∷ names.Key ∷ []) ++ size_field ∷ [])

abbrev pub end_definition : Definition
end_definition = defined 55 events.EndLink
    (time_field ∷ map text_field (names.«Type» ∷ names.Container ∷ names.Value ∷ names.EndContainer
    ∷ names.Key ∷ []))

abbrev pub entries : List (ℕ × Definition)
entries = (0, container_type_definition)
    ∷ (1, state_type_definition)
    ∷ (2, link_type_definition)
    ∷ (3, create_definition)
    ∷ (4, destroy_definition)
    ∷ (5, push_definition)
    ∷ (6, pop_definition)
    ∷ (7, reset_definition)
    ∷ (8, start_definition)
    ∷ (9, end_definition) ∷ []

pub complete-defined : complete_in lines_defined ≡ entries
unfolding definitions_written lines_defined digits
complete-defined = refl

pub begun-defined : begun_in lines_defined ≡ None
unfolding definitions_written lines_defined digits
begun-defined = refl

pub unrefused-defined : first_refused definition_reason_at lines_defined ≡ None
unfolding definitions_written lines_defined digits
unrefused-defined = refl
