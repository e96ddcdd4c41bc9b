-- Small streams, their trees, and lists of items, on which the definitions are computed. Times are
-- nanoseconds.
use Rattle.std.specs.Prelude.{ℕ, ◌+◌, ◌*◌, List, [], ◌∷◌, ◌++◌, map}
use Rattle.std.specs.List.{flat_map, range_with_len}
use Rattle.trace_base.specs.declared.stream.Event.TheVariants.{Enter, Leave}
use Rattle.trace_base.specs.declared.stream.TrackStream.{TrackStream}
use Rattle.node_key.specs.Tree.{no_kids}
use Rattle.node_key.specs.declared.item.Item.{Item}

-- n calls of no time, one at each nanosecond
abbrev pub in_a_row : ℕ → List Item
in_a_row n = map (λ t. record { at = t; tree = record { func = 2; dur = 0; kids = no_kids } })
    (range_with_len 0 n)

-- main runs for 100 ns and calls f n times, at each tenth nanosecond for 5 ns
abbrev pub calls_of_main : ℕ → TrackStream
calls_of_main n = record {
  start = 0;
  end = 100;
  events = Enter 1 0 ∷ flat_map (λ k. Enter 2 (10 * k) ∷ Leave (10 * k + 5) ∷ []) (range_with_len 0 n)
      ++ Leave 100 ∷ [];
}

-- no calls
abbrev pub nothing : TrackStream
nothing = record { start = 5; end = 7; events = [] }

-- two calls that touch, at the very start and at the very end
abbrev pub touching : TrackStream
touching = record { start = 0; end = 9; events = Enter 1 0 ∷ Leave 4 ∷ Enter 2 4 ∷ Leave 9 ∷ [] }

-- main calling f twice, a second later
abbrev pub second_later : TrackStream
second_later = record {
  start = 1000000000;
  end = 1500000000;
  events = Enter 1 1000000000 ∷ Enter 2 1100000000 ∷ Leave 1200000000 ∷ Enter 2 1300000000 ∷ Leave 1400000000
      ∷ Leave 1500000000 ∷ [];
}

-- main calling f twice, the second time for longer
abbrev pub second_longer : TrackStream
second_longer = record {
  start = 0;
  end = 500000000;
  events = Enter 1 0 ∷ Enter 2 100000000 ∷ Leave 200000000 ∷ Enter 2 300000000 ∷ Leave 450000000
      ∷ Leave 500000000 ∷ [];
}
