-- Small traces and a small history on which the words of a history are computed. Times are nanoseconds.
use Rattle.std.specs.Prelude.{List, [], ◌∷◌}
use Rattle.trace_base.specs.declared.names.TraceInfo.{TraceInfo}
use Rattle.trace_base.specs.declared.stream.TrackStream.{TrackStream}
use Rattle.hall_history.specs.History.{Entry, Opened, Published, PublishedTree, Sealed, Dropped, Closed}
use Rattle.hall_history.specs.History.{Asked, IsLegalHistory, published_tree}

-- a track on which nothing happens
abbrev pub quiet : TrackStream
quiet = record { start = 0; end = 10; events = [] }

-- what is published of it
abbrev pub quiet_tree : PublishedTree
quiet_tree = published_tree quiet

-- a trace without tracks
abbrev pub bare : TraceInfo
bare = record {
  names = record {
    end = 10;
    containers = [];
    kinds = [];
    link_kinds = [];
    tracks = [];
    functions = [];
  };
  messages = record { messages = []; unmatched = 0 };
}

-- a trace of one track
abbrev pub lone : TraceInfo
lone = record {
  names = record {
    end = 10;
    containers = record { name = 48 ∷ []; start = 0; end = 10 } ∷ [];
    kinds = (75 ∷ []) ∷ [];
    link_kinds = [];
    tracks = record { container = 0; kind = 0 } ∷ [];
    functions = [];
  };
  messages = record { messages = []; unmatched = 0 };
}

-- a trace that names the same track twice, which isn't legal
abbrev pub doubled : TraceInfo
doubled = record {
  names = record {
    end = 10;
    containers = record { name = 48 ∷ []; start = 0; end = 10 } ∷ [];
    kinds = (75 ∷ []) ∷ [];
    link_kinds = [];
    tracks = record { container = 0; kind = 0 } ∷ record { container = 0; kind = 0 } ∷ [];
    functions = [];
  };
  messages = record { messages = []; unmatched = 0 };
}

-- nothing has happened yet
abbrev pub no_entries : List Entry
no_entries = []

-- A trace of one track is loaded, asked for and closed, while one without tracks is opened and dropped.
abbrev pub small : List Entry
small = Opened 1 lone ∷ Published 1 0 quiet_tree ∷ Asked ∷ Sealed 1 ∷ Opened 2 bare ∷ Closed 1 ∷ Dropped 2
    ∷ []

-- both traces are opened
abbrev pub two_opened : List Entry
two_opened = Opened 1 lone ∷ Opened 2 bare ∷ []

-- the history isn't legal
abbrev pub IsUnlawful : List Entry → Type 0
IsUnlawful entries = IsLegalHistory entries → ⊥
