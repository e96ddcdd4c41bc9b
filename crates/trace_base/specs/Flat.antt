-- The flat profile of streams over the half-open interval [a, b): what it has for each function, read off the
-- pieces.
use Rattle.std.specs.Prelude.{ℕ, ◌-◌, Bool, false, ◌&&◌, ◌||◌, ◌==◌, nat_le, nat_lt, min, max, List, length}
use Rattle.std.specs.Prelude.{map, filter, fold, sum_by, count_by, slice_get}
use Rattle.std.specs.List.{list_any, range_with_len}
use Rattle.std.specs.Option.{option_map_or}
use Rattle.trace_base.specs.Stream.{Piece, pieces}
use Rattle.trace_base.specs.declared.stream.Event.{Event}
use Rattle.trace_base.specs.declared.stream.Event.TheVariants.{Enter, Leave}
use Rattle.trace_base.specs.declared.stream.TrackStream.{TrackStream}
use Rattle.trace_base.specs.declared.profile.Row.{Row}
use Rattle.trace_base.specs.declared.profile.Profile.{Profile}

-- how long the piece and the interval have in common
abbrev pub clip : ℕ → ℕ → Piece → ℕ
clip a b p = min p.to b - max p.from a

-- whether a time is within the interval
abbrev pub is_within : ℕ → ℕ → ℕ → Bool
is_within a b t = nat_le a t && nat_lt t b

-- the calls of which f is the function are entered, at a time within the interval
abbrev pub enters_in : ℕ → ℕ → ℕ → Event → Bool
enters_in f a b (Enter g t) = g == f && is_within a b t
enters_in f a b (Leave t) = false

-- whether a call of f is open
abbrev pub is_open_in : ℕ → List ℕ → Bool
is_open_in f stack = list_any (λ g. g == f) stack

-- whether the innermost call is one of f
abbrev pub is_innermost_in : ℕ → List ℕ → Bool
is_innermost_in f stack = option_map_or (λ g. g == f) (slice_get stack (length stack - 1)) false

-- whether no call is open
abbrev pub is_bare : List ℕ → Bool
is_bare stack = length stack == 0

-- the time within the interval in which the call stack has the property
unfoldable pub time_with : (List ℕ → Bool) → ℕ → ℕ → TrackStream → ℕ
time_with has a b s = sum_by (clip a b) (filter (λ p. has p.stack) (pieces s))

-- the calls of f that begin within the interval
unfoldable pub calls_in : ℕ → ℕ → ℕ → TrackStream → ℕ
calls_in f a b s = count_by (enters_in f a b) s.events

-- what f took in the interval, over all the streams. A recursive call's time counts once in incl.
unfoldable pub row_of : List TrackStream → ℕ → ℕ → ℕ → Row
row_of streams a b f = record {
  func = f;
  calls = sum_by (calls_in f a b) streams;
  incl = sum_by (time_with (is_open_in f) a b) streams;
  excl = sum_by (time_with (is_innermost_in f) a b) streams;
}

-- a row is told where the function began a call or had one open
abbrev pub stands : Row → Bool
stands row = nat_lt 0 row.calls || nat_lt 0 row.incl

-- the function that the event enters, or 0
abbrev pub function_of : Event → ℕ
function_of (Enter f t) = f
function_of (Leave t) = 0

-- the greatest number of a function that the streams enter, 0 where there is none
unfoldable pub greatest_function : List TrackStream → ℕ
greatest_function streams = fold (λ n s. fold (λ m e. max m (function_of e)) n s.events) 0 streams

-- the flat profile of the streams over [a, b), their numbers added
unfoldable pub flat : List TrackStream → ℕ → ℕ → Profile
flat streams a b = record {
  bare = sum_by (time_with is_bare a b) streams;
  rows = filter stands (map (row_of streams a b) (range_with_len 1 (greatest_function streams)));
}
