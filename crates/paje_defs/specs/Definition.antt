-- Which field of a definition has which role.
use Rattle.std.specs.Prelude.{ℕ, ◌==◌, List, Bool, Option, position, is_none}
use Rattle.std.specs.Option.{IsNone, option_and_then, option_or}
use Rattle.std.specs.List.{find}
use Rattle.paje_defs.specs.declared.event_name.EventName.{EventName}
use Rattle.paje_defs.specs.declared.field_name.FieldName.{FieldName}
use Rattle.paje_defs.specs.declared.role.Role.{Role}
use Rattle.paje_defs.specs.declared.field.Field.{Field}
use Rattle.paje_defs.specs.declared.definition.Definition.{Definition}
use Rattle.paje_defs.specs.FieldName.{name_number}
use Rattle.paje_defs.specs.Role.{first_name, needed, second_name}

abbrev pub is_named : FieldName → Field → Bool
is_named name f = name_number f.name == name_number name

-- ---- where the field of a role stands

-- the first field of a name
abbrev pub place_of_name : List Field → FieldName → Option ℕ
place_of_name fields name = position (is_named name) fields

-- the first field of the first name, else the first field of the second
abbrev pub place_of : EventName → List Field → Role → Option ℕ
place_of event fields role = option_or (place_of_name fields (first_name role))
    (option_and_then (place_of_name fields) (second_name event role))

-- the first needed role that no field has
abbrev pub missing : EventName → List Field → Option Role
missing event fields = find (λ role. is_none (place_of event fields role)) (needed event)

-- each role that its event needs has a field
abbrev pub IsWhole : Definition → Type 0
IsWhole d = IsNone (missing d.event d.fields)
