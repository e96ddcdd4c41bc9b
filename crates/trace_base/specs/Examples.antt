-- Small streams on which the definitions are computed. Times are nanoseconds.
use Rattle.std.specs.Prelude.{[], ◌∷◌}
use Rattle.trace_base.specs.declared.stream.Event.TheVariants.{Enter, Leave}
use Rattle.trace_base.specs.declared.stream.TrackStream.{TrackStream}

-- main runs for half a second and calls f twice, for a tenth of a second each
abbrev pub two_calls : TrackStream
two_calls = record {
  start = 0;
  end = 500000000;
  events = Enter 1 0 ∷ Enter 2 100000000 ∷ Leave 200000000 ∷ Enter 2 300000000 ∷ Leave 400000000
      ∷ Leave 500000000 ∷ [];
}

-- f calls itself
abbrev pub recursion : TrackStream
recursion = record { start = 0; end = 10; events = Enter 1 0 ∷ Enter 1 2 ∷ Leave 4 ∷ Leave 10 ∷ [] }

-- two calls that take no time
abbrev pub no_length : TrackStream
no_length = record { start = 0; end = 100; events = Enter 1 10 ∷ Leave 10 ∷ Enter 1 20 ∷ Leave 20 ∷ [] }
