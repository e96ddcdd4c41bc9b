-- What a table of tracks stands for, and what a change of one of them leaves.
use Rattle.std.specs.Prelude.{◌≡◌, ℕ, List, map, slice_get, slice_set, Some}
use Rattle.std.specs.Option.{option_map_or}
use Rattle.indexmap.specs.IndexMap.{keys}
use Rattle.trace_base.specs.declared.names.Track.{Track}
use Rattle.paje_model.specs.declared.open_track.OpenTrack.{OpenTrack}
use Rattle.paje_model.specs.declared.track_table.Pair.{Pair}
use Rattle.paje_model.specs.declared.track_table.TrackTable.{TrackTable}

abbrev pub track_of : Pair → Track
track_of p = record { container = p.container; kind = p.kind }

-- the tracks, in order
abbrev pub tracks_kept : TrackTable → List Track
tracks_kept t = map track_of (keys t.places)

-- the track at a place becomes this one, and the others stay
pub record ChangesTrack (old new : TrackTable) (place : ℕ) (to : OpenTrack → OpenTrack) : Type 0 where
  pub tracks : tracks_kept new ≡ tracks_kept old
  pub list : (t : OpenTrack) → slice_get old.list.items place ≡ Some t
      → new.list.items ≡ slice_set old.list.items place (to t)

-- how many calls of the track at a place are open
abbrev pub calls_at : TrackTable → ℕ → ℕ
calls_at t place = option_map_or (λ made. made.open_calls) (slice_get t.list.items place) 0
