-- Which names and messages are a legal trace, and which stream fits one of its tracks.
use Rattle.std.specs.Prelude.{◌≡◌, ℕ, ◌+◌, ◌*◌, ◌≤◌, ◌<◌, length, slice_get, All, Some}
use Rattle.trace_base.specs.Stream.{IsLegal}
use Rattle.trace_base.specs.declared.limits.TheConstants.{MAX_TIME, MAX_CONTAINERS, MAX_TYPES, MAX_TRACKS}
use Rattle.trace_base.specs.declared.limits.TheConstants.{MAX_FUNCTIONS, MAX_LINK_EVENTS}
use Rattle.trace_base.specs.declared.names.Container.{Container}
use Rattle.trace_base.specs.declared.names.Track.{Track}
use Rattle.trace_base.specs.declared.names.TraceNames.{TraceNames}
use Rattle.trace_base.specs.declared.names.TraceInfo.{TraceInfo}
use Rattle.trace_base.specs.declared.messages.Message.{Message}
use Rattle.trace_base.specs.declared.stream.Event.TheVariants.{Enter}
use Rattle.trace_base.specs.declared.stream.TrackStream.{TrackStream}

-- the container exists in an interval within the limits
abbrev pub IsLegalContainer : Container → Type 0
IsLegalContainer c = (c.start ≤ c.end) × (c.end ≤ MAX_TIME)

-- the track's container and kind exist
abbrev pub NamesExisting : TraceNames → Track → Type 0
NamesExisting names t = (t.container < length names.containers) × (t.kind < length names.kinds)

-- the message's containers exist
abbrev pub JoinsExisting : TraceNames → Message → Type 0
JoinsExisting names m = (m.from < length names.containers) × (m.to < length names.containers)

-- the lists are within the limits, a message counting as two link events, and what they name exists
pub record IsLegalInfo (info : TraceInfo) : Type 0 where
  pub containers : length info.names.containers ≤ MAX_CONTAINERS
  pub types : length info.names.kinds + length info.names.link_kinds ≤ MAX_TYPES
  pub tracks : length info.names.tracks ≤ MAX_TRACKS
  pub functions : length info.names.functions ≤ MAX_FUNCTIONS
  pub messages : 2 * length info.messages.messages ≤ MAX_LINK_EVENTS
  pub intervals : All IsLegalContainer info.names.containers
  pub existing : All (NamesExisting info.names) info.names.tracks
  -- no two tracks are the same pair of a container and a kind
  pub distinct : (i j : ℕ) (t : Track) → slice_get info.names.tracks i ≡ Some t
      → slice_get info.names.tracks j ≡ Some t → i ≡ j
  pub joined : All (JoinsExisting info.names) info.messages.messages

-- the stream has the interval of the container
abbrev pub Spans : TrackStream → Container → Type 0
Spans s c = (s.start ≡ c.start) × (s.end ≡ c.end)

-- A stream that may be published as this track: it is legal, it starts and ends with the track's container,
-- and the names number its functions.
pub record Fits (s : TrackStream) (info : TraceInfo) (track : ℕ) : Type 0 where
  pub legal : IsLegal s
  pub interval : (t : Track) × (c : Container) × (slice_get info.names.tracks track ≡ Some t)
      × (slice_get info.names.containers t.container ≡ Some c) × Spans s c
  pub numbered : (i f t : ℕ) → slice_get s.events i ≡ Some (Enter f t) → f ≤ length info.names.functions
