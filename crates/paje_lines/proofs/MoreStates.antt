-- The states of a track, one event line more.
use Rattle.std.proofs.Common.{Bool, List, [], ap, cond, filter, ◌++◌, ◌∙◌, ◌∷◌, ◌≡◌}
use Rattle.std.proofs.lemmas.List.Elements.{filter-append}
use Rattle.paje_defs.proofs.PlacedMore.{placed-more}
use Rattle.paje_defs.specs.Refusals.{placed}
use Rattle.paje_lines.specs.EventLine.{EventLine}
use Rattle.paje_lines.specs.States.{is_on, states_of}
use Rattle.trace_base.specs.declared.names.Track.{Track}

pub states-more : (lines : List EventLine) (line : EventLine) (track : Track) (b : Bool)
    → is_on track (record { before = lines; line = line }) ≡ b → states_of (lines ++ line ∷ []) track
    ≡ states_of lines track ++ cond b (record { before = lines; line = line } ∷ []) []
states-more lines line track b is =
    ap (filter (is_on track)) (placed-more lines line)
    ∙ (filter-append (is_on track) (placed lines) (record { before = lines; line = line } ∷ [])
    ∙ ap (λ b. states_of lines track ++ cond b (record { before = lines; line = line } ∷ []) []) is)
