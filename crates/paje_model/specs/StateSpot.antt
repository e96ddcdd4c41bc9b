-- Where a state event was found to stand.
use Rattle.std.specs.Prelude.{◌≡◌, List, Some, None, position}
use Rattle.paje_lines.specs.EventLine.{EventLine}
use Rattle.paje_lines.specs.Reasons.{state_reason}
use Rattle.paje_lines.specs.States.{entered_text, functions_entered, is_same, track_named, tracks_in}
use Rattle.paje_model.specs.declared.state_spot.StateSpot.{StateSpot}
use Rattle.paje_model.specs.FunctionPlace.{function_place}
use Rattle.paje_model.specs.TrackTable.{track_of}

-- it is that of this line, against which there is no reason
pub record IsSpot (before : List EventLine) (line : EventLine) (spot : StateSpot) : Type 0 where
  pub reason : state_reason before line ≡ None
  pub named : track_named before line ≡ Some (track_of spot.pair)
  pub place : spot.place ≡ position (is_same (track_of spot.pair)) (tracks_in before)
  pub function : spot.function ≡ function_place (functions_entered before)
      (entered_text (record { before = before; line = line }))
