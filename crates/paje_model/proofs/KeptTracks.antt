-- A line that is no state event leaves what was made of each track.
use Rattle.std.proofs.Common.{◌≡◌, ◌<◌, false, List, [], ◌∷◌, ◌++◌, length, map, flat_map, sym, ap}
use Rattle.std.proofs.Common.{ap₂, ◌∙◌}
use Rattle.list_lemmas.proofs.Maps.{map_agree_where}
use Rattle.trace_base.specs.declared.names.Track.{Track}
use Rattle.paje_lines.specs.EventLine.{EventLine, is_state_event}
use Rattle.paje_lines.specs.Containers.{containers_in}
use Rattle.paje_lines.specs.States.{functions_entered, last_time, open_calls, states_of, tracks_in}
use Rattle.paje_lines.specs.Text.{events_at}
use Rattle.paje_model.specs.declared.track_table.TrackTable.{TrackTable}
use Rattle.paje_model.specs.MadeTracks.{AreTracks, made_of}
use Rattle.paje_model.proofs.FoundPlaces.{tracks-within}
use Rattle.paje_model.proofs.KeptFacts.{enters_none, functions-kept, last_time-kept, open-kept, states-kept}
use Rattle.paje_model.proofs.KeptFacts.{tracks-kept}

made-kept : (lines : List EventLine) (line : EventLine) → is_state_event line.event ≡ false
    → (track : Track) → track.container < length (containers_in lines)
    → made_of lines track ≡ made_of (lines ++ line ∷ []) track
made-kept lines line never track within =
    let functions : functions_entered (lines ++ line ∷ []) ≡ functions_entered lines
    = functions-kept lines line (enters_none line.event never) in
    let states : states_of (lines ++ line ∷ []) track ≡ states_of lines track
    = states-kept lines line track never in
    let open_now : open_calls (lines ++ line ∷ []) track ≡ open_calls lines track
    = open-kept lines line track never in
    let last : last_time (lines ++ line ∷ []) track ≡ last_time lines track
    = last_time-kept lines line track never within in
    let made : flat_map (events_at (functions_entered (lines ++ line ∷ [])) track)
    (states_of (lines ++ line ∷ []) track)
    ≡ flat_map (events_at (functions_entered lines) track) (states_of lines track)
    = ap₂ (λ fs ps. flat_map (events_at fs track) ps) functions states in
    cc (made, open_now, last)

pub AreTracks-kept : (lines : List EventLine) (line : EventLine) (t : TrackTable) → AreTracks lines t
    → is_state_event line.event ≡ false → AreTracks (lines ++ line ∷ []) t
AreTracks-kept lines line t are never = record {
  tracks = are.tracks ∙ sym (tracks-kept lines line never);
  made = are.made ∙ (map_agree_where (made_of lines) (made_of (lines ++ line ∷ []))
      (λ t. t.container < length (containers_in lines)) (tracks_in lines)
      (made-kept lines line never) (tracks-within lines)
      ∙ ap (map (made_of (lines ++ line ∷ []))) (sym (tracks-kept lines line never)));
}
