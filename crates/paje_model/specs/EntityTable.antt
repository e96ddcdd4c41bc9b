-- What a table of entities stands for.
use Rattle.std.specs.Prelude.{◌≡◌, ℕ, List, map, position, Vec}
use Rattle.paje_model.specs.declared.entity_table.Declaration.{Declaration}
use Rattle.paje_model.specs.declared.entity_table.EntityTable.{EntityTable}
use Rattle.paje_lines.specs.Found.{Entity, has_name}
use Rattle.paje_model.specs.Noted.{place_noted}

abbrev pub entity_at : {A : Type 0} → Vec ℕ A × Declaration → Entity
entity_at e = record { alias = e.0.items; name = e.1.name; line = e.1.line }

-- the entities, in order
abbrev pub entities_in : EntityTable → List Entity
entities_in t = map entity_at t.by_alias.entries

-- the first of a name is found by it
abbrev pub IsNamed : EntityTable → Type 0
IsNamed t = (text : List ℕ) → place_noted t.by_name text ≡ position (has_name text) (entities_in t)
