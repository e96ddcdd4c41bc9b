-- The timeline of a stream: which function took the most time of its own in each pixel of an interval.
use Rattle.std.specs.Prelude.{ℕ, ◌+◌, ◌-◌, ◌*◌, ◌/◌, ◌&&◌, ◌==◌, nat_lt, max, List, [], ◌∷◌, map, fold, find}
use Rattle.std.specs.List.{range_with_len}
use Rattle.std.specs.Option.{option_map_or}
use Rattle.trace_base.specs.Flat.{flat}
use Rattle.trace_base.specs.declared.stream.TrackStream.{TrackStream}
use Rattle.trace_base.specs.declared.profile.Row.{Row}
use Rattle.trace_base.specs.declared.profile.Profile.{Profile}

-- Where pixel i of px over [a, b) begins. It ends where the next one begins.
abbrev pub pixel_start : ℕ → ℕ → ℕ → ℕ → ℕ
pixel_start a b px i = a + (i * (b - a)) / px

-- the greatest time of its own that a row has
abbrev pub greatest_excl : List Row → ℕ
greatest_excl rows = fold (λ m row. max m row.excl) 0 rows

-- The function of the first row with the greatest time of its own, 0 where none has any. The first is the one
-- of the least number, since rows rise.
abbrev pub busiest : Profile → ℕ
busiest p = option_map_or (λ row. row.func)
    (find (λ row. nat_lt 0 row.excl && (row.excl == greatest_excl p.rows)) p.rows) 0

-- the busiest function of each pixel
unfoldable pub timeline : TrackStream → ℕ → ℕ → ℕ → List ℕ
timeline s a b px = map (λ i. busiest (flat (s ∷ []) (pixel_start a b px i) (pixel_start a b px (i + 1))))
    (range_with_len 0 px)
