-- What a list of lines has made of each track.
use Rattle.std.specs.Prelude.{◌≡◌, List, map, flat_map}
use Rattle.trace_base.specs.declared.names.Track.{Track}
use Rattle.paje_lines.specs.EventLine.{EventLine}
use Rattle.paje_lines.specs.States.{functions_entered, last_time, open_calls, states_of, tracks_in}
use Rattle.paje_lines.specs.Text.{events_at}
use Rattle.paje_model.specs.declared.open_track.OpenTrack.{OpenTrack}
use Rattle.paje_model.specs.declared.track_table.TrackTable.{TrackTable}
use Rattle.paje_model.specs.TrackTable.{tracks_kept}

abbrev pub made_of : List EventLine → Track → OpenTrack
made_of lines track = record {
  events = flat_map (events_at (functions_entered lines) track) (states_of lines track);
  open_calls = open_calls lines track;
  last = last_time lines track;
}

-- the table has the tracks of the lines
pub record AreTracks (lines : List EventLine) (t : TrackTable) : Type 0 where
  pub tracks : tracks_kept t ≡ tracks_in lines
  pub made : t.list.items ≡ map (made_of lines) (tracks_in lines)
