-- What a table of values stands for.
use Rattle.std.specs.Prelude.{ℕ, List, [], map, slice_get, All}
use Rattle.std.specs.Option.{option_map_or}
use Rattle.paje_model.specs.declared.value_table.ValueTable.{ValueTable}
use Rattle.paje_model.specs.EntityTable.{IsNamed, entities_in}
use Rattle.paje_lines.specs.Found.{Entity}

-- the values of each state type, in order
abbrev pub values_kept : ValueTable → List (List Entity)
values_kept t = map entities_in t.of_kinds.items

-- those of one state type
abbrev pub values_at : ValueTable → ℕ → List Entity
values_at t kind = option_map_or entities_in (slice_get t.of_kinds.items kind) []

-- the first of a name is found by it
abbrev pub AreNamed : ValueTable → Type 0
AreNamed t = All IsNamed t.of_kinds.items
