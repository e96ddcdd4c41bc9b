-- The names of types, as they are written.
use Rattle.std.specs.Prelude.{ℕ, List, [], ◌∷◌, codes, Option}
use Rattle.std.specs.List.{find}
use Rattle.std.specs.Str.{bytes_eq}
use Rattle.paje_defs.specs.declared.field_type.FieldType.{FieldType}
use Rattle.paje_defs.specs.declared.field_type.FieldType.TheVariants as types

-- the types of fields
abbrev pub type_text : FieldType → List ℕ
type_text types.Date = codes "date"
type_text types.Int = codes "int"
type_text types.Double = codes "double"
type_text types.Hex = codes "hex"
type_text types.String = codes "string"
type_text types.Color = codes "color"

abbrev pub all_types : List FieldType
all_types = types.Date ∷ types.Int ∷ types.Double ∷ types.Hex ∷ types.String ∷ types.Color ∷ []

-- the type of a name
abbrev pub type_of : List ℕ → Option FieldType
type_of text = find (λ t. bytes_eq (type_text t) text) all_types
