-- The law of streams and their trees.
use Rattle.std.specs.Prelude.{◌≡◌, ℕ, ◌+◌, ◌-◌, ◌≤◌, ◌↔◌, map}
use Rattle.trace_base.specs.Stream.{IsLegal}
use Rattle.trace_base.specs.declared.stream.Event.{Event}
use Rattle.trace_base.specs.declared.stream.Event.TheVariants.{Enter, Leave}
use Rattle.trace_base.specs.declared.stream.TrackStream.{TrackStream}
use Rattle.trace_base.specs.declared.limits.TheConstants.{MAX_TIME}
use Rattle.node_key.specs.Events.{events, stream_from}
use Rattle.node_key.specs.Trees.{tree}

-- the event, later by a time in nanoseconds
abbrev pub moved : ℕ → Event → Event
moved a (Enter f t) = Enter f (t + a)
moved a (Leave t) = Leave (t + a)

-- the event, in nanoseconds from a start on
abbrev pub since : ℕ → Event → Event
since start (Enter f t) = Enter f (t - start)
since start (Leave t) = Leave (t - start)

-- the events of the tree of a legal stream, from its start on, are its events
abbrev pub TreesKeepEvents : Type 0
TreesKeepEvents = (s : TrackStream) → IsLegal s → events (tree s) s.start ≡ s.events

-- the tree of a legal stream and any start within the greatest time give a legal stream, whose tree it is
abbrev pub TreesGiveStreams : Type 0
TreesGiveStreams =
    (s : TrackStream) (start : ℕ) → IsLegal s → start + (tree s).dur ≤ MAX_TIME
    → IsLegal (stream_from (tree s) start) × (tree (stream_from (tree s) start) ≡ tree s)

-- two streams last as long, and have the same events from their starts on
abbrev pub SameFromStart : TrackStream → TrackStream → Type 0
SameFromStart s u =
    (s.end - s.start ≡ u.end - u.start) × (map (since s.start) s.events ≡ map (since u.start) u.events)

-- two legal streams have one tree exactly where that is so
abbrev pub TreesTellStreams : Type 0
TreesTellStreams = (s u : TrackStream) → IsLegal s → IsLegal u → (tree s ≡ tree u) ↔ SameFromStart s u
