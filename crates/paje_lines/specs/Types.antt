-- The types that the lines of a trace declare. Types of all sorts share their aliases and their names.
use Rattle.std.specs.Prelude.{ℕ, Bool, true, false, List, ◌∷◌, map, filter, filter_map, count_by}
use Rattle.std.specs.Prelude.{slice_get}
use Rattle.std.specs.Prelude.{Option, Some, None}
use Rattle.std.specs.Option.{option_map, option_and_then}
use Rattle.paje_defs.specs.declared.event_name.EventName.{EventName}
use Rattle.paje_defs.specs.declared.event_name.EventName.TheVariants as events
use Rattle.paje_defs.specs.declared.role.Role.TheVariants as roles
use Rattle.paje_lines.specs.declared.type_sort.TypeSort.{TypeSort}
use Rattle.paje_lines.specs.declared.type_sort.TypeSort.TheVariants as sorts
use Rattle.paje_lines.specs.EventLine.{EventLine, alias_of, text_of, is_state_type}
use Rattle.paje_defs.specs.Refusals.{Placed, placed}
use Rattle.paje_lines.specs.EventLine.{is_link_type}
use Rattle.paje_lines.specs.Found.{Entity, entity_place, root, rooted}

pub record DeclaredType : Type 0 where
  pub entity : Entity
  pub sort : TypeSort

-- how many lines declare a state type; a link type
abbrev pub state_types : List EventLine → ℕ
state_types lines = count_by (λ line. is_state_type line.event) lines

abbrev pub link_types : List EventLine → ℕ
link_types lines = count_by (λ line. is_link_type line.event) lines

-- the sort of the type that an event declares, behind the lines before it
abbrev pub sort_of : List EventLine → EventName → Option TypeSort
sort_of before events.DefineContainerType = Some sorts.Container
sort_of before events.DefineStateType = Some (sorts.State (state_types before))
sort_of before events.DefineEventType = Some sorts.Event
sort_of before events.DefineVariableType = Some sorts.Variable
sort_of before events.DefineLinkType = Some (sorts.Link (link_types before))
sort_of before _ = None

-- its alias is not `/`, which is `0`
abbrev pub rooted_entity : EventLine → Entity
rooted_entity line = record {
  alias = rooted (alias_of line);
  name = text_of line roles.Name;
  line = line.number;
}

abbrev pub type_at : Placed EventLine → Option DeclaredType
type_at p = option_map (λ sort. record { entity = rooted_entity p.line; sort = sort })
    (sort_of p.before p.line.event)

abbrev pub root_type : DeclaredType
root_type = record { entity = root; sort = sorts.Container }

-- the types, in order; the root type, of containers, comes first
abbrev pub types_in : List EventLine → List DeclaredType
types_in lines = root_type ∷ filter_map type_at (placed lines)

abbrev pub type_entities : List EventLine → List Entity
type_entities lines = map (λ t. t.entity) (types_in lines)

-- the type that a text finds
abbrev pub type_named : List EventLine → List ℕ → Option DeclaredType
type_named lines text = option_and_then (slice_get (types_in lines)) (entity_place (type_entities lines)
    (rooted text))

-- ---- its sort

abbrev pub is_container_type : TypeSort → Bool
is_container_type sorts.Container = true
is_container_type _ = false

-- the number of a state type
abbrev pub state_number : TypeSort → Option ℕ
state_number (sorts.State n) = Some n
state_number _ = None

-- the number of a link type
abbrev pub link_number : TypeSort → Option ℕ
link_number (sorts.Link n) = Some n
link_number _ = None

-- the number of the state type that a text finds
abbrev pub kind_named : List EventLine → List ℕ → Option ℕ
kind_named lines text = option_and_then (λ t. state_number t.sort) (type_named lines text)

-- the number of the link type that a text finds
abbrev pub link_kind_named : List EventLine → List ℕ → Option ℕ
link_kind_named lines text = option_and_then (λ t. link_number t.sort) (type_named lines text)

-- ---- the names of the state types and of the link types, in order

abbrev pub kinds_in : List EventLine → List (List ℕ)
kinds_in lines = map (λ line. text_of line roles.Name) (filter (λ line. is_state_type line.event) lines)

abbrev pub link_kinds_in : List EventLine → List (List ℕ)
link_kinds_in lines = map (λ line. text_of line roles.Name) (filter (λ line. is_link_type line.event) lines)
