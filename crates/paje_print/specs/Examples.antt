-- Small traces: one that has a canonical text, and others that differ from it in one thing. Times are
-- nanoseconds.
use Rattle.std.specs.Prelude.{ℕ, List, [], ◌∷◌, codes, decimal, map, replicate, false, true}
use Rattle.std.specs.List.{flat_map, range_with_len}
use Rattle.trace_base.specs.LegalExamples.{calls_in_a_row, lasting, nested_calls, one_call, track_of_kind}
use Rattle.trace_base.specs.declared.messages.LinkEvent.{LinkEvent}
use Rattle.trace_base.specs.declared.names.Container.{Container}
use Rattle.trace_base.specs.declared.names.Track.{Track}
use Rattle.trace_base.specs.declared.names.TraceNames.{TraceNames}
use Rattle.trace_base.specs.declared.stream.Event.{Event}
use Rattle.trace_base.specs.declared.stream.Event.TheVariants.{Enter, Leave}
use Rattle.trace_base.specs.declared.stream.TrackStream.{TrackStream}
use Rattle.trace_base.specs.declared.text.TraceText.{TraceText}
use Rattle.paje_print.specs.Canonical.{root_until}

-- both ends of a message, by their containers and sizes
abbrev pub sent : ℕ → ℕ → LinkEvent
sent container size = record {
  starts = true;
  kind = 0;
  key = codes "k";
  container = container;
  time = 3;
  size = size;
}

abbrev pub received : ℕ → ℕ → LinkEvent
received container size = record {
  starts = false;
  kind = 0;
  key = codes "k";
  container = container;
  time = 7;
  size = size;
}

-- the root and a process with one track and one function
abbrev pub small_names : TraceNames
small_names = record {
  end = 10;
  containers = root_until 10 ∷ lasting 2 10 ∷ [];
  kinds = codes "State" ∷ [];
  link_kinds = codes "Link" ∷ [];
  tracks = track_of_kind 1 0 ∷ [];
  functions = codes "main" ∷ [];
}

-- the process calls its function once, and sends the root a message
abbrev pub small_trace : TraceText
small_trace = record {
  names = small_names;
  tracks = one_call 1 3 7 ∷ [];
  links = sent 1 100 ∷ received 0 0 ∷ [];
}

-- without a root, and without all that a root would have
abbrev pub nothing_traced : TraceText
nothing_traced = record {
  names = record { end = 0; containers = []; kinds = []; link_kinds = []; tracks = []; functions = [] };
  tracks = [];
  links = [];
}

-- ---- with other names

abbrev pub small_named : TraceNames → TraceText
small_named names = record small_trace { names = names }

-- with this text in place of the state type's, the link type's, or the function's
abbrev pub of_state_type : List ℕ → TraceText
of_state_type text = small_named (record small_names { kinds = text ∷ [] })

abbrev pub of_link_type : List ℕ → TraceText
of_link_type text = small_named (record small_names { link_kinds = text ∷ [] })

abbrev pub calling : List ℕ → TraceText
calling text = small_named (record small_names { functions = text ∷ [] })

-- a text of so many bytes
unfoldable pub long_text : ℕ → List ℕ
long_text n = replicate n 97

-- so many texts of so many bytes
unfoldable pub long_texts : ℕ → ℕ → List (List ℕ)
long_texts n size = replicate n (long_text size)

-- with this root, or with one container more
abbrev pub rooted_in : Container → TraceText
rooted_in root = small_named (record small_names { containers = root ∷ lasting 2 10 ∷ [] })

abbrev pub beside_container : Container → TraceText
beside_container c =
    small_named (record small_names { containers = root_until 10 ∷ lasting 2 10 ∷ c ∷ [] })

-- with so many containers more
abbrev pub beside_containers : ℕ → TraceText
beside_containers n = small_named (record small_names {
  containers = root_until 10 ∷ lasting 2 10 ∷ replicate n (lasting 0 10);
})

-- with these state types
abbrev pub of_state_types : List (List ℕ) → TraceText
of_state_types kinds = small_named (record small_names { kinds = kinds })

-- with this end, which is the root's too; and with a container up to this end beside
abbrev pub ending_at : ℕ → TraceText
ending_at end = small_named (record small_names {
  end = end;
  containers = root_until end ∷ lasting 2 10 ∷ [];
})

abbrev pub beside_lasting : ℕ → TraceText
beside_lasting end = small_named (record small_names {
  end = end;
  containers = root_until end ∷ lasting 2 10 ∷ lasting 5 end ∷ [];
})

-- ---- with other streams

-- with one state type and one track more, and with these streams behind the first
abbrev pub beside_track : Track → List TrackStream → TraceText
beside_track track streams = record {
  names = record small_names {
    kinds = codes "State" ∷ codes "Wait" ∷ [];
    tracks = track_of_kind 1 0 ∷ track ∷ [];
  };
  tracks = one_call 1 3 7 ∷ streams;
  links = [];
}

-- a track of the process on which nothing happens
abbrev pub quiet_process : TrackStream
quiet_process = record { start = 2; end = 10; events = [] }

abbrev pub running : TrackStream → TraceText
running stream = record small_trace { tracks = stream ∷ [] }

abbrev pub running_events : List Event → TraceText
running_events events = running (record { start = 2; end = 10; events = events })

-- with so many calls, each in the one before it
abbrev pub nesting : ℕ → TraceText
nesting n = running_events (nested_calls n).events

-- with so many calls, one behind the other
abbrev pub calling_often : ℕ → TraceText
calling_often n = running_events (calls_in_a_row n)

-- with so many containers more, each with a track on which nothing happens
abbrev pub quiet_in_each : ℕ → TraceText
quiet_in_each n = record {
  names = record small_names {
    containers = root_until 10 ∷ lasting 2 10 ∷ replicate n (lasting 2 10);
    tracks = track_of_kind 1 0 ∷ map (λ k. track_of_kind k 0) (range_with_len 2 n);
  };
  tracks = one_call 1 3 7 ∷ replicate n quiet_process;
  links = [];
}

-- with these functions, of which the process calls two, one behind the other
abbrev pub two_in_a_row : ℕ → ℕ → TrackStream
two_in_a_row f g = record {
  start = 2;
  end = 10;
  events = Enter f 3 ∷ Leave 4 ∷ Enter g 5 ∷ Leave 6 ∷ [];
}

abbrev pub calling_two : List (List ℕ) → ℕ → ℕ → TraceText
calling_two functions f g = record {
  names = record small_names { functions = functions };
  tracks = two_in_a_row f g ∷ [];
  links = [];
}

-- with so many functions, each named by its number and called once
abbrev pub calling_each : ℕ → TraceText
calling_each n = record {
  names = record small_names { functions = map decimal (range_with_len 1 n) };
  tracks = record {
    start = 2;
    end = 10;
    events = flat_map (λ f. Enter f 3 ∷ Leave 3 ∷ []) (range_with_len 1 n);
  } ∷ [];
  links = [];
}

-- ---- with other link events

abbrev pub linking : LinkEvent → TraceText
linking l = record small_trace { links = l ∷ [] }

-- so many starts of messages
unfoldable pub starts : ℕ → List LinkEvent
starts n = replicate n (sent 1 100)

abbrev pub linking_often : ℕ → TraceText
linking_often n = record small_trace { links = starts n }

-- With two link types: the process calls two functions, one in the other, and sends the root a message of each
-- type. The ends of the second stand between those of the first.
abbrev pub two_nested : TrackStream
two_nested = record {
  start = 2;
  end = 10;
  events = Enter 1 3 ∷ Enter 2 4 ∷ Leave 5 ∷ Leave 7 ∷ [];
}

abbrev pub of_two_link_types : TraceText
of_two_link_types = record {
  names = record small_names {
    link_kinds = codes "Link" ∷ codes "Put" ∷ [];
    functions = codes "main" ∷ codes "f" ∷ [];
  };
  tracks = two_nested ∷ [];
  links = sent 1 100 ∷ record (sent 1 8) { kind = 1 } ∷ record (received 0 0) { kind = 1 } ∷ received 0 0 ∷ [];
}
