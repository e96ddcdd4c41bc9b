-- What a table of functions stands for.
use Rattle.std.specs.Prelude.{ℕ, List, map}
use Rattle.indexmap.specs.IndexMap.{keys}
use Rattle.paje_model.specs.declared.function_table.FunctionTable.{FunctionTable}

-- the functions, in order
abbrev pub functions_kept : FunctionTable → List (List ℕ)
functions_kept t = map (λ k. k.items) (keys t.texts)
