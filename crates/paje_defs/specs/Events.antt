-- What an event line tells under the definitions.
use Rattle.std.specs.Prelude.{◌≡◌, ℕ, List, length, slice_get, is_some, Option, Some, None, Ok, Err}
use Rattle.std.specs.Prelude.{Result, MatchResult, if◌then◌else◌, nat_lt}
use Rattle.std.specs.Option.{option_and_then}
use Rattle.paje_lex.specs.declared.date_fault.DateFault.{DateFault}
use Rattle.paje_lex.specs.DateReading.{date_of}
use Rattle.paje_defs.specs.declared.event_name.EventName.{EventName}
use Rattle.paje_defs.specs.declared.event_name.EventName.TheVariants as events
use Rattle.paje_defs.specs.declared.field_type.FieldType.{FieldType}
use Rattle.paje_defs.specs.declared.field_type.FieldType.TheVariants as types
use Rattle.paje_defs.specs.declared.role.Role.{Role}
use Rattle.paje_defs.specs.declared.role.Role.TheVariants as roles
use Rattle.paje_defs.specs.declared.field.Field.{Field}
use Rattle.paje_defs.specs.declared.definition.Definition.{Definition}
use Rattle.paje_defs.specs.declared.event_fault.EventFault.{EventFault}
use Rattle.paje_defs.specs.declared.event_fault.EventFault.TheVariants as faults
use Rattle.paje_defs.specs.declared.fields.Fields.{Fields}
use Rattle.paje_defs.specs.Numbers.{event_number_of, size_of}
use Rattle.paje_defs.specs.Definition.{place_of}
use Rattle.paje_defs.specs.Texts.{text_at, text_by_role}
use Rattle.paje_defs.specs.Lines.{definition_of}

-- the text of a role's field
abbrev pub role_text : Definition → List (List ℕ) → Role → Option (List ℕ)
role_text d words role = text_at words (place_of d.event d.fields role)

-- ---- the time and the size

-- 0 where the definition has no time
abbrev pub time_of_text : Option (List ℕ) → Result ℕ DateFault
time_of_text None = Ok 0
time_of_text (Some text) = date_of text

-- a text of a field of type int counts as a size, and no other
abbrev pub typed_size : FieldType → Option (List ℕ) → ℕ
typed_size types.Int None = 0
typed_size types.Int (Some text) = size_of text
typed_size types.Date text = 0
typed_size types.Double text = 0
typed_size types.Hex text = 0
typed_size types.String text = 0
typed_size types.Color text = 0

abbrev pub field_size : Option Field → Option (List ℕ) → ℕ
field_size None text = 0
field_size (Some f) text = typed_size f.kind text

-- the field of the role Size
abbrev pub size_field : Definition → Option Field
size_field d = option_and_then (slice_get d.fields) (place_of d.event d.fields roles.Size)

-- the size that it tells
abbrev pub size_in : Definition → List (List ℕ) → ℕ
size_in d words = field_size (size_field d) (role_text d words roles.Size)

-- only the start of a link has one
abbrev pub message_size : EventName → ℕ → ℕ
message_size events.StartLink size = size
message_size _ size = 0

-- ---- the line

-- the definition of an event line, and its time
pub record Event : Type 0 where
  pub definition : Definition
  pub time : ℕ

abbrev pub timed : Definition → Result ℕ DateFault → Result Event EventFault
timed d (Err f) = Err (faults.Date f)
timed d (Ok time) = Ok (record { definition = d; time = time })

abbrev pub event_under : List (List ℕ) → Option Definition → Result Event EventFault
event_under words None = Err faults.UnknownNumber
event_under words (Some d) = if nat_lt (length d.fields) (length words)
    then timed d (time_of_text (role_text d words roles.Time)) else Err faults.TooFew

abbrev pub event_numbered : List (ℕ × Definition) → List (List ℕ) → Option ℕ → Result Event EventFault
event_numbered entries words None = Err faults.NoNumber
event_numbered entries words (Some number) = event_under words (definition_of entries number)

-- the definition and the time of an event line with these words, or why it is refused
abbrev pub told_event : List (ℕ × Definition) → List (List ℕ) → Result Event EventFault
told_event entries words = event_numbered entries words (option_and_then event_number_of (slice_get words 0))

-- ---- what a call gives

-- the fields are those of an event with these words
pub record AreFields (words : List (List ℕ)) (d : Definition) (f : Fields) : Type 0 where
  pub kind : f.kind ≡ d.event
  pub size : f.size ≡ message_size d.event (size_in d words)
  pub texts : (role : Role) → text_by_role f.texts role ≡ role_text d words role

-- the fields of the event that the line tells, or why it tells none
abbrev pub Tells : List (List ℕ) → Result Fields EventFault → Result Event EventFault → Type 0
Tells words r wanted = MatchResult r (λ f. (e : Event) × (wanted ≡ Ok e) × (f.time ≡ e.time)
    × AreFields words e.definition f) (λ fault. wanted ≡ Err fault)

-- a role has a text exactly where the definition has a field of it
abbrev pub RolesStand : Definition → Fields → Type 0
RolesStand d f = (role : Role) → is_some (text_by_role f.texts role) ≡ is_some
    (place_of d.event d.fields role)
