-- The call-tree profile of streams over the half-open interval [a, b): what it has for each call path, where
-- a path is a call stack from the outermost call down.
use Rattle.std.specs.Prelude.{◌≡◌, ◌≢◌, ℕ, ◌+◌, ◌-◌, ◌≤◌, Bool, false, not, ◌&&◌, ◌||◌, nat_eq, nat_lt, List}
use Rattle.std.specs.Prelude.{[], length, take, map, filter, sum_by, count_by, slice_index, slice_get}
use Rattle.std.specs.Cmp.Lexicographic.{pointwise, slice_cmp}
use Rattle.std.specs.List.{Contains, flat_map, range_with_len, starts_with}
use Rattle.std.specs.Option.{option_map_or}
use Rattle.std.specs.Ordering.{nat_cmp}
use Rattle.trace_base.specs.Flat.{is_bare, is_within, time_with}
use Rattle.trace_base.specs.InOrder.{distinct_in_order, IsRisingListOf}
use Rattle.trace_base.specs.Stream.{is_enter, time_of, stack_after}
use Rattle.trace_base.specs.declared.stream.TrackStream.{TrackStream}
use Rattle.trace_base.specs.declared.profile.PathRow.{PathRow}
use Rattle.trace_base.specs.declared.profile.PathProfile.{PathProfile}

-- whether the call stack is the path
abbrev pub is_path : List ℕ → List ℕ → Bool
is_path path stack = pointwise nat_eq stack path

-- whether the call stack begins with the path
abbrev pub is_under : List ℕ → List ℕ → Bool
is_under path stack = starts_with nat_eq stack path

-- whether event i begins a call within the interval that makes a call stack with the property
abbrev pub makes : (List ℕ → Bool) → ℕ → ℕ → TrackStream → ℕ → Bool
makes has a b s i = option_map_or (λ e. is_enter e && is_within a b (time_of e)) (slice_get s.events i) false
    && has (stack_after (take (i + 1) s.events))

-- the calls that begin within the interval and make a call stack with the property
unfoldable pub calls_making : (List ℕ → Bool) → ℕ → ℕ → TrackStream → ℕ
calls_making has a b s = count_by (makes has a b s) (range_with_len 0 (length s.events))

-- what the path took in the interval, over all the streams
unfoldable pub path_row : List TrackStream → ℕ → ℕ → List ℕ → PathRow
path_row streams a b path = record {
  depth = length path;
  func = slice_index path (length path - 1);
  calls = sum_by (calls_making (is_path path) a b) streams;
  incl = sum_by (time_with (is_under path) a b) streams;
  excl = sum_by (time_with (is_path path) a b) streams;
}

-- a row is told where a path that begins with this one began a call or took time of its own
unfoldable pub path_stands : List TrackStream → ℕ → ℕ → List ℕ → Bool
path_stands streams a b path = nat_lt 0 (sum_by (calls_making (is_under path) a b) streams)
    || nat_lt 0 (sum_by (time_with (is_under path) a b) streams)

-- the call stacks of the stream, one after each of its events
abbrev pub call_stacks : TrackStream → List (List ℕ)
call_stacks s = map (λ n. stack_after (take n s.events)) (range_with_len 1 (length s.events))

-- the different call paths of the streams, in depth-first order: a path comes before those that go on from
-- it, and siblings rise by function
unfoldable pub call_paths : List TrackStream → List (List ℕ)
call_paths streams = distinct_in_order (slice_cmp nat_cmp)
    (filter (λ stack. not (is_bare stack)) (flat_map call_stacks streams))

-- The path is of at least one call, and a call stack of the streams begins with it: its first calls are the
-- path, after some of a stream's events.
pub record IsPathOf (streams : List TrackStream) (path : List ℕ) : Type 0 where
  pub some : path ≢ []
  pub stream : TrackStream
  pub has : Contains streams stream
  pub events : ℕ
  pub within : events ≤ length stream.events
  pub calls : ℕ
  pub begins : path ≡ take calls (stack_after (take events stream.events))

-- Each path that a call stack begins with is told once, in depth-first order: the stack was that path itself
-- when the path's innermost call was entered. There is one such list.
abbrev pub TellsEachPath : List TrackStream → Type 0
TellsEachPath streams = IsRisingListOf (slice_cmp nat_cmp) (IsPathOf streams) (call_paths streams)
    × ((paths : List (List ℕ)) → IsRisingListOf (slice_cmp nat_cmp) (IsPathOf streams) paths
    → paths ≡ call_paths streams)

-- the call-tree profile of the streams over [a, b), their numbers added: a row for each path that stands
unfoldable pub paths : List TrackStream → ℕ → ℕ → PathProfile
paths streams a b = record {
  bare = sum_by (time_with is_bare a b) streams;
  rows = map (path_row streams a b) (filter (path_stands streams a b) (call_paths streams));
}
