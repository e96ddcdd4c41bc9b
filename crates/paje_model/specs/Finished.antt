-- The containers and the streams of a trace whose lines are all read, by what its tables kept.
use Rattle.std.specs.Prelude.{ℕ, ◌++◌, List, filter_map, replicate, slice_get}
use Rattle.std.specs.Option.{option_map, option_map_or}
use Rattle.trace_base.specs.declared.names.Container.{Container}
use Rattle.trace_base.specs.declared.names.Track.{Track}
use Rattle.trace_base.specs.declared.stream.Event.TheVariants.{Leave}
use Rattle.trace_base.specs.declared.stream.TrackStream.{TrackStream}
use Rattle.paje_model.specs.declared.container_table.Existing.{Existing}
use Rattle.paje_model.specs.declared.open_track.OpenTrack.{OpenTrack}

-- a container ends when it was destroyed, else at this time
abbrev pub lasting_until : ℕ → Existing → Container
lasting_until end existing = record {
  name = existing.name;
  start = existing.start;
  end = option_map_or (λ destruction. destruction.time) existing.destruction end;
}

-- a track lasts as long as its container, at whose end its calls are left
abbrev pub stream_within : Container → OpenTrack → TrackStream
stream_within container track = record {
  start = container.start;
  end = container.end;
  events = track.events ++ replicate track.open_calls (Leave container.end);
}

-- the streams of tracks, each with what was made of it
abbrev pub streams_within : List Container → List (Track × OpenTrack) → List TrackStream
streams_within containers = filter_map (λ p. option_map (λ container. stream_within container p.1)
    (slice_get containers p.0.container))
