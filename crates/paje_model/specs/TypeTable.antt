-- What a table of types stands for, and what one more does to it.
use Rattle.std.specs.Prelude.{◌≡◌, map, List, [], ◌∷◌, ◌++◌, is_some, if◌then◌else◌}
use Rattle.paje_lines.specs.declared.type_sort.TypeSort.{TypeSort}
use Rattle.paje_model.specs.declared.type_table.TypeTable.{TypeTable}
use Rattle.paje_lines.specs.EventLine.{EventLine}
use Rattle.paje_model.specs.EntityTable.{IsNamed, entities_in}
use Rattle.paje_lines.specs.Found.{Entity}
use Rattle.paje_lines.specs.Types.{state_number, link_number, type_entities, types_in, kinds_in}
use Rattle.paje_lines.specs.Types.{link_kinds_in}

-- it has the types that the lines declare
pub record AreTypes (lines : List EventLine) (t : TypeTable) : Type 0 where
  pub entities : entities_in t.entities ≡ type_entities lines
  pub named : IsNamed t.entities
  pub sorts : t.sorts.items ≡ map (λ declared. declared.sort) (types_in lines)
  pub kinds : t.kinds.items ≡ kinds_in lines
  pub link_kinds : t.link_kinds.items ≡ link_kinds_in lines

-- a type goes last, and its name behind those of its sort
pub record TakesType (old new : TypeTable) (e : Entity) (sort : TypeSort) : Type 0 where
  pub entities : entities_in new.entities ≡ entities_in old.entities ++ e ∷ []
  pub named : IsNamed new.entities
  pub sorts : new.sorts.items ≡ old.sorts.items ++ sort ∷ []
  pub kinds : new.kinds.items ≡ old.kinds.items ++ (if is_some (state_number sort) then e.name ∷ [] else [])
  pub link_kinds : new.link_kinds.items ≡ old.link_kinds.items
      ++ (if is_some (link_number sort) then e.name ∷ [] else [])
