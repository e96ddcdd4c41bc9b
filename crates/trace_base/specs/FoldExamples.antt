-- More small inputs on which the definitions are computed. Times are nanoseconds.
use Rattle.std.specs.Prelude.{ℕ, true, false, List, [], ◌∷◌}
use Rattle.trace_base.specs.declared.messages.LinkEvent.{LinkEvent}
use Rattle.trace_base.specs.declared.stream.Event.TheVariants.{Enter, Leave}
use Rattle.trace_base.specs.declared.stream.TrackStream.{TrackStream}

-- main calls f for no time, and both end at once
abbrev pub no_time_under : TrackStream
no_time_under = record { start = 0; end = 100; events = Enter 1 0 ∷ Enter 2 10 ∷ Leave 10 ∷ Leave 10 ∷ [] }

-- f calls g, then g calls f
abbrev pub both_ways : TrackStream
both_ways = record {
  start = 0;
  end = 10;
  events = Enter 2 0 ∷ Enter 1 1 ∷ Leave 3 ∷ Leave 4 ∷ Enter 1 4
      ∷ Enter 2 7 ∷ Leave 8 ∷ Leave 10 ∷ [];
}

-- f calls h, which calls g, and then g: the sibling of the lesser number is called last
abbrev pub siblings : TrackStream
siblings = record {
  start = 0;
  end = 20;
  events = Enter 1 0 ∷ Enter 3 1 ∷ Enter 2 2 ∷ Leave 5 ∷ Leave 6
      ∷ Enter 2 6 ∷ Leave 9 ∷ Leave 12 ∷ [];
}

-- a start of a message with the one key of its link type
abbrev pub start_link : ℕ → ℕ → ℕ → ℕ → ℕ → LinkEvent
start_link kind key container time size = record {
  starts = true;
  kind = kind;
  key = key ∷ [];
  container =
      container;
  time = time;
  size = size;
}

abbrev pub end_link : ℕ → ℕ → ℕ → ℕ → LinkEvent
end_link kind key container time = record {
  starts = false;
  kind = kind;
  key = key ∷ [];
  container =
      container;
  time = time;
  size = 0;
}

-- two starts of a key and one end of it, and a message that is received before it is sent
abbrev pub three_starts : List LinkEvent
three_starts =
    start_link 0 1 1 1000000000 100 ∷ start_link 0 1 1 2000000000 50 ∷ end_link 0 1 2 1500000000
    ∷ start_link 0 2 2 3000000000 7 ∷ end_link 0 2 1 2500000000 ∷ []

-- two starts of a key before its two ends, among them a start and an end of another link type with that key
abbrev pub crossed : List LinkEvent
crossed =
    start_link 0 1 3 10 0 ∷ start_link 0 1 3 5 2 ∷ end_link 0 1 4 20
    ∷ start_link 1 1 3 5 4 ∷ end_link 0 1 4 30 ∷ end_link 1 1 4 6 ∷ []

-- an end that stands before its start, and one without a start
abbrev pub end_first : List LinkEvent
end_first = end_link 0 1 2 7 ∷ start_link 0 1 1 4 0 ∷ end_link 0 1 5 9 ∷ []
