-- What may be done to streams: one is put behind another, or moved in time.
use Rattle.std.specs.Prelude.{ℕ, ◌+◌, [], ◌++◌, map}
use Rattle.trace_base.specs.declared.stream.Event.{Event}
use Rattle.trace_base.specs.declared.stream.Event.TheVariants.{Enter, Leave}
use Rattle.trace_base.specs.declared.stream.TrackStream.{TrackStream}

-- a stream without events, in which no call is open
abbrev pub idle : ℕ → ℕ → TrackStream
idle from to = record { start = from; end = to; events = [] }

-- one stream and, behind it, another one
abbrev pub joined : TrackStream → TrackStream → TrackStream
joined s t = record { start = s.start; end = t.end; events = s.events ++ t.events }

-- the event, so many nanoseconds later
abbrev pub event_later : ℕ → Event → Event
event_later d (Enter f t) = Enter f (t + d)
event_later d (Leave t) = Leave (t + d)

-- the stream, so many nanoseconds later
abbrev pub later : ℕ → TrackStream → TrackStream
later d s = record { start = s.start + d; end = s.end + d; events = map (event_later d) s.events }
