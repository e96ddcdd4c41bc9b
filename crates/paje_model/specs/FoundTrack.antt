-- What the look-up of a state event's track leaves of the tables, where a new track is added to them.
use Rattle.std.specs.Prelude.{◌≡◌, ℕ, [], ◌∷◌, ◌++◌, Option, Some, None, is_some, if◌then◌else◌}
use Rattle.trace_base.specs.declared.names.Track.{Track}
use Rattle.paje_model.specs.declared.container_table.ContainerTable.{ContainerTable}
use Rattle.paje_model.specs.declared.open_track.OpenTrack.{OpenTrack}
use Rattle.paje_model.specs.declared.track_table.TrackTable.{TrackTable}
use Rattle.paje_model.specs.ContainerTable.{ChangesContainer, with_track}
use Rattle.paje_model.specs.TrackTable.{tracks_kept}

-- a track without events
abbrev pub fresh : ℕ → OpenTrack
fresh start = record { events = []; open_calls = 0; last = start }

-- the track has the place where it was found, or goes last
pub record HasTrack (old new : TrackTable) (track : Track) (start : ℕ) (place : Option ℕ) : Type 0 where
  pub tracks : tracks_kept new ≡ tracks_kept old ++ (if is_some place then [] else track ∷ [])
  pub list : new.list.items ≡ old.list.items ++ (if is_some place then [] else fresh start ∷ [])

-- a new track is one more of its container
abbrev pub HasPlace : ContainerTable → ContainerTable → ℕ → ℕ → Option ℕ → Type 0
HasPlace old new container track None = ChangesContainer old new container (with_track track)
HasPlace old new container track (Some place) = new ≡ old
