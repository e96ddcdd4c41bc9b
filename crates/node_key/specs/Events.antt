-- The events of a tree from a time on, and the stream that it is.
use Rattle.std.specs.Prelude.{ℕ, ◌+◌, ◌==◌, List, [], ◌∷◌, ◌++◌, if◌then◌else◌}
use Rattle.trace_base.specs.declared.stream.Event.{Event}
use Rattle.trace_base.specs.declared.stream.Event.TheVariants.{Enter, Leave}
use Rattle.trace_base.specs.declared.stream.TrackStream.{TrackStream}
use Rattle.node_key.specs.Tree.{Tree, Kids, no_kids, kid}

-- the events of a node round those of its kids; a group has none of its own
abbrev pub enclosed : (func start end : ℕ) → List Event → List Event
enclosed func start end es = if func == 0 then es else Enter func start ∷ es ++ Leave end ∷ []

-- the events of kids, where the time before the first begins at `from`
abbrev pub events_below : ℕ → Kids → List Event
events_below from no_kids = []
events_below from (kid gap func dur inner more) =
    enclosed func (from + gap) (from + gap + dur) (events_below (from + gap) inner)
    ++ events_below (from + gap + dur) more

-- the events of a tree that begins at a time
unfoldable pub events : Tree → ℕ → List Event
events t at = enclosed t.func at (at + t.dur) (events_below at t.kids)

-- the stream that a tree is from a start on
abbrev pub stream_from : Tree → ℕ → TrackStream
stream_from t start = record { start = start; end = start + t.dur; events = events t start }
