-- The parts of a stream that fits a track.
use Rattle.std.specs.Prelude.{◌≡◌, ℕ, ◌≤◌, slice_get, Some}
use Rattle.trace_base.specs.Info.{Spans}
use Rattle.trace_base.specs.declared.names.Container.{Container}
use Rattle.trace_base.specs.declared.names.Track.{Track}
use Rattle.trace_base.specs.declared.names.TraceInfo.{TraceInfo}
use Rattle.trace_base.specs.declared.stream.Event.{Event}
use Rattle.trace_base.specs.declared.stream.Event.TheVariants.{Enter, Leave}
use Rattle.trace_base.specs.declared.stream.TrackStream.{TrackStream}

-- the stream has the interval of the track's container
abbrev pub SpansTrack : TrackStream → TraceInfo → ℕ → Type 0
SpansTrack s info track = (t : Track) × (c : Container) × (slice_get info.names.tracks track ≡ Some t)
    × (slice_get info.names.containers t.container ≡ Some c) × Spans s c

-- an event of no function, or of one of so many
abbrev pub IsNumbered : ℕ → Event → Type 0
IsNumbered functions (Enter f t) = f ≤ functions
IsNumbered functions (Leave t) = Unit {0}
