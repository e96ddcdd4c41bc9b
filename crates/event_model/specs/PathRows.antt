-- The rows of the call paths of a stream.
use Rattle.std.specs.Prelude.{ℕ, ◌≤◌, List, length, map, filter}
use Rattle.trace_base.specs.Paths.{path_row, path_stands}
use Rattle.trace_base.specs.declared.limits.TheConstants.{MAX_OPEN_CALLS}
use Rattle.trace_base.specs.declared.profile.PathRow.{PathRow}
use Rattle.trace_base.specs.declared.stream.TrackStream.{TrackStream}

-- the path is of at least one call, and of no more than a legal stream has open
pub record IsOfOpenCalls (path : List ℕ) : Type 0 where
  pub some : 1 ≤ length path
  pub depth : length path ≤ MAX_OPEN_CALLS

-- the rows of those of the paths that stand
abbrev pub rows_told : List TrackStream → ℕ → ℕ → List (List ℕ) → List PathRow
rows_told streams a b paths = map (path_row streams a b) (filter (path_stands streams a b) paths)
