-- The names of fields, as they are written.
use Rattle.std.specs.Prelude.{ℕ, List, [], ◌∷◌, codes, Option, unwrap_or}
use Rattle.std.specs.List.{find}
use Rattle.std.specs.Str.{bytes_eq}
use Rattle.paje_defs.specs.declared.field_name.FieldName.{FieldName}
use Rattle.paje_defs.specs.declared.field_name.FieldName.TheVariants as fields

-- the fields that have a role
abbrev pub field_text : FieldName → List ℕ
field_text fields.Time = codes "Time"
field_text fields.Alias = codes "Alias"
field_text fields.Type = codes "Type"
field_text fields.ContainerType = codes "ContainerType"
field_text fields.Name = codes "Name"
field_text fields.Container = codes "Container"
field_text fields.Value = codes "Value"
field_text fields.Key = codes "Key"
field_text fields.StartContainerType = codes "StartContainerType"
field_text fields.SourceContainerType = codes "SourceContainerType"
field_text fields.EndContainerType = codes "EndContainerType"
field_text fields.DestContainerType = codes "DestContainerType"
field_text fields.StartContainer = codes "StartContainer"
field_text fields.SourceContainer = codes "SourceContainer"
field_text fields.EndContainer = codes "EndContainer"
field_text fields.DestContainer = codes "DestContainer"
field_text fields.Size = codes "Size"
field_text fields.Other = []

abbrev pub all_fields : List FieldName
all_fields = fields.Time ∷ fields.Alias ∷ fields.Type ∷ fields.ContainerType ∷ fields.Name ∷ fields.Container
    ∷ fields.Value ∷ fields.Key ∷ fields.StartContainerType ∷ fields.SourceContainerType
    ∷ fields.EndContainerType ∷ fields.DestContainerType ∷ fields.StartContainer ∷ fields.SourceContainer
    ∷ fields.EndContainer ∷ fields.DestContainer ∷ fields.Size ∷ []

-- the name of a field that has a role
abbrev pub known_field : List ℕ → Option FieldName
known_field text = find (λ f. bytes_eq (field_text f) text) all_fields

-- the name of a field, Other where it has no role
abbrev pub field_name_of : List ℕ → FieldName
field_name_of text = unwrap_or (known_field text) fields.Other

-- names of fields as numbers, by which they are compared
abbrev pub name_number : FieldName → ℕ
name_number fields.Time = 0
name_number fields.Alias = 1
name_number fields.Type = 2
name_number fields.ContainerType = 3
name_number fields.Name = 4
name_number fields.Container = 5
name_number fields.Value = 6
name_number fields.Key = 7
name_number fields.StartContainerType = 8
name_number fields.SourceContainerType = 9
name_number fields.EndContainerType = 10
name_number fields.DestContainerType = 11
name_number fields.StartContainer = 12
name_number fields.SourceContainer = 13
name_number fields.EndContainer = 14
name_number fields.DestContainer = 15
name_number fields.Size = 16
name_number fields.Other = 17
