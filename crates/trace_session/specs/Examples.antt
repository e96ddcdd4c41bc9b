-- The first session, on which the definitions are computed: a small trace, a profile of it, QUIT.
use Rattle.std.specs.Prelude.{ℕ, List, [], ◌∷◌, ◌++◌, codes}
use Rattle.trace_base.specs.Examples as streams
use Rattle.trace_base.specs.declared.text.TraceText.{TraceText}
use Rattle.hall_history.specs.History.{Entry, Opened, Published, Sealed, Asked, published_tree}
use Rattle.paje_lines.specs.Text.{info_of_text}
use Rattle.paje_reader.specs.Examples.{two_calls_text}

-- the text of the first trace: main runs for half a second and calls f twice
unfoldable pub first_text : List ℕ
first_text = two_calls_text

-- what the session reads
unfoldable pub first_input : List ℕ
first_input = codes "PUT 697\n" ++ first_text ++ codes "FLAT 1 * 0 500000000\nQUIT\n"

-- what that text says
abbrev pub first_trace : TraceText
first_trace = record {
  names = record {
    end = 500000000;
    containers = record { name = codes "0"; start = 0; end = 500000000 }
        ∷ record { name = codes "rank 0"; start = 0; end = 500000000 } ∷ [];
    kinds = codes "State" ∷ [];
    link_kinds = [];
    tracks = record { container = 1; kind = 0 } ∷ [];
    functions = codes "main" ∷ codes "f" ∷ [];
  };
  tracks = streams.two_calls ∷ [];
  links = [];
}

-- the history that the session leaves in a new hall
abbrev pub first_history : List Entry
first_history = Opened 1 (info_of_text first_trace) ∷ Published 1 0
    (published_tree streams.two_calls) ∷ Sealed 1
    ∷ Asked
    ∷ []
