-- Small streams and infos, legal ones and others that break one rule each. Times are nanoseconds.
use Rattle.std.specs.Prelude.{ℕ, zero, suc, List, [], ◌∷◌, ◌++◌, map, replicate, codes}
use Rattle.std.specs.List.{range_with_len}
use Rattle.trace_base.specs.declared.messages.Message.{Message}
use Rattle.trace_base.specs.declared.names.Container.{Container}
use Rattle.trace_base.specs.declared.names.Track.{Track}
use Rattle.trace_base.specs.declared.names.TraceInfo.{TraceInfo}
use Rattle.trace_base.specs.declared.names.TraceNames.{TraceNames}
use Rattle.trace_base.specs.declared.stream.Event.{Event}
use Rattle.trace_base.specs.declared.stream.Event.TheVariants.{Enter, Leave}
use Rattle.trace_base.specs.declared.stream.TrackStream.{TrackStream}

-- a track of ten nanoseconds with these events
abbrev pub ten_with : List Event → TrackStream
ten_with events = record { start = 0; end = 10; events = events }

-- a track on which nothing happens up to this time
abbrev pub quiet_until : ℕ → TrackStream
quiet_until t = record { start = 0; end = t; events = [] }

-- a call of this function from a to b, on a track from 2 to 10
abbrev pub one_call : ℕ → ℕ → ℕ → TrackStream
one_call f a b = record { start = 2; end = 10; events = Enter f a ∷ Leave b ∷ [] }

-- one call, and two that end
abbrev pub left_twice : TrackStream
left_twice = ten_with (Enter 1 3 ∷ Leave 4 ∷ Leave 5 ∷ [])

-- a call that doesn't end
abbrev pub left_open : TrackStream
left_open = ten_with (Enter 1 3 ∷ [])

-- n calls, each in the one before it
abbrev pub nested_calls : ℕ → TrackStream
nested_calls n = ten_with (replicate n (Enter 1 3) ++ replicate n (Leave 4))

-- n calls one behind the other, of no length each
unfoldable pub calls_in_a_row : ℕ → List Event
calls_in_a_row zero = []
calls_in_a_row (suc n) = Enter 1 3 ∷ Leave 3 ∷ calls_in_a_row n

abbrev pub lasting : ℕ → ℕ → Container
lasting start end = record { name = codes "x"; start = start; end = end }

abbrev pub one_message : ℕ → ℕ → Message
one_message from to = record { from = from; to = to; send = 5; receive = 7; size = 100 }

-- n messages from the process to the root
unfoldable pub messages_to_root : ℕ → List Message
messages_to_root n = replicate n (one_message 1 0)

abbrev pub track_of_kind : ℕ → ℕ → Track
track_of_kind container kind = record { container = container; kind = kind }

-- the root and a process with one track and two functions
abbrev pub one_process : TraceNames
one_process = record {
  end = 10;
  containers = lasting 0 10 ∷ lasting 2 10 ∷ [];
  kinds = codes "State" ∷ [];
  link_kinds = codes "Link" ∷ [];
  tracks = track_of_kind 1 0 ∷ [];
  functions = codes "main" ∷ codes "f" ∷ [];
}

-- these names, and one message from the process to the root
abbrev pub with_message : TraceNames → TraceInfo
with_message names = record {
  names = names;
  messages = record { messages = one_message 1 0 ∷ []; unmatched = 0 };
}

-- one process and these messages
abbrev pub with_messages : List Message → TraceInfo
with_messages messages = record {
  names = one_process;
  messages = record { messages = messages; unmatched = 0 };
}

-- one process, with one list of the names in place of its own
abbrev pub with_containers : List Container → TraceInfo
with_containers list = with_message (record one_process { containers = list })

abbrev pub with_kinds : List (List ℕ) → TraceInfo
with_kinds list = with_message (record one_process { kinds = list })

abbrev pub with_tracks : List Track → TraceInfo
with_tracks list = with_message (record one_process { tracks = list })

abbrev pub with_functions : List (List ℕ) → TraceInfo
with_functions list = with_message (record one_process { functions = list })

-- n containers with a track each
abbrev pub track_in_each : ℕ → TraceInfo
track_in_each n = with_message (record one_process {
  containers = replicate n (lasting 0 10);
  tracks = map (λ k. track_of_kind k 0) (range_with_len 0 n);
})
