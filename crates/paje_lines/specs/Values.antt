-- The values that the lines of a trace declare for its state types. Each state type has aliases and names of
-- its own.
use Rattle.std.specs.Prelude.{ℕ, ◌==◌, List, map, filter, filter_map, slice_get, Option, None}
use Rattle.std.specs.Prelude.{if◌then◌else◌}
use Rattle.std.specs.Option.{option_map, option_and_then, option_map_or}
use Rattle.paje_defs.specs.declared.role.Role.TheVariants as roles
use Rattle.paje_lines.specs.EventLine.{EventLine, alias_of, text_of, defines_value}
use Rattle.paje_defs.specs.Refusals.{Placed, placed}
use Rattle.paje_lines.specs.Found.{Entity, entity_place}
use Rattle.paje_lines.specs.Types.{kind_named}

-- a value of the state type of this number
pub record DeclaredValue : Type 0 where
  pub kind : ℕ
  pub entity : Entity

abbrev pub entity_of : EventLine → Entity
entity_of line = record { alias = alias_of line; name = text_of line roles.Name; line = line.number }

abbrev pub value_at : Placed EventLine → Option DeclaredValue
value_at p = if defines_value p.line.event
    then option_map (λ kind. record { kind = kind; entity = entity_of p.line })
    (kind_named p.before (text_of p.line roles.Kind)) else None

abbrev pub values_in : List EventLine → List DeclaredValue
values_in lines = filter_map value_at (placed lines)

-- those of one state type
abbrev pub values_of : List EventLine → ℕ → List Entity
values_of lines kind = map (λ v. v.entity) (filter (λ v. v.kind == kind) (values_in lines))

-- the name of the entity that a text finds, else the text itself
abbrev pub text_among : List Entity → List ℕ → List ℕ
text_among entities text = option_map_or (λ e. e.name)
    (option_and_then (slice_get entities) (entity_place entities text)) text

-- the text of a value of a state type
abbrev pub value_text : List EventLine → ℕ → List ℕ → List ℕ
value_text lines kind text = text_among (values_of lines kind) text
