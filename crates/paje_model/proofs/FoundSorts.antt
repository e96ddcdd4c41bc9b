-- The sort of the type that a text finds, by a table of types.
use Rattle.std.proofs.Common.{◌≡◌, ℕ, List, map, Option, Some, None, refl, ap₂, ◌∙◌, slice_get}
use Rattle.std.specs.Option.{option_and_then, option_map}
use Rattle.std.proofs.lemmas.Option.{slice_get-map}
use Rattle.paje_lines.specs.declared.type_sort.TypeSort.{TypeSort}
use Rattle.paje_lines.specs.EventLine.{EventLine}
use Rattle.paje_lines.specs.Found.{entity_place, rooted}
use Rattle.paje_lines.specs.Types.{DeclaredType, type_entities, type_named, types_in}
use Rattle.paje_model.specs.declared.type_table.TypeTable.{TypeTable}
use Rattle.paje_model.specs.EntityTable.{entities_in}
use Rattle.paje_model.specs.TypeTable.{AreTypes}

at_place : (ts : List DeclaredType) (place : Option ℕ)
    → option_and_then (slice_get (map (λ t. t.sort) ts)) place
    ≡ option_map (λ t. t.sort) (option_and_then (slice_get ts) place)
at_place ts None = refl
at_place ts (Some i) = slice_get-map (λ t. t.sort) ts i

pub sort-found : (lines : List EventLine) (t : TypeTable) (text : List ℕ) → AreTypes lines t
    → option_and_then (slice_get t.sorts.items) (entity_place (entities_in t.entities) (rooted text))
    ≡ option_map (λ t. t.sort) (type_named lines text)
sort-found lines t text are =
    ap₂ (λ sorts es. option_and_then (slice_get sorts) (entity_place es (rooted text))) are.sorts are.entities
    ∙ at_place (types_in lines) (entity_place (type_entities lines) (rooted text))

-- a number of it
pub number-found : (f : TypeSort → Option ℕ) (o : Option DeclaredType)
    → option_and_then f (option_map (λ t. t.sort) o) ≡ option_and_then (λ t. f t.sort) o
number-found f None = refl
number-found f (Some t) = refl
