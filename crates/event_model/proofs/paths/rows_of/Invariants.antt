use Rattle.std.proofs.Common.{◌≡◌, [], ◌∷◌, map, take}
use Rattle.event_model.specs.PathRows.{rows_told}
use Rattle.event_model.proofs.paths.rows_of.Given as goal

abbrev pub invariant-loop-path : goal.invariant-loop-path
invariant-loop-path l =
    l.rows ≡ rows_told (l.s ∷ []) l.a l.b (map (λ path. path.items) (take l.path-index l.paths))
