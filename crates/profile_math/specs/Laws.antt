-- What the sum and the closing of profiles have to do with the profiles of streams. Any interval is
-- half-open.
use Rattle.std.specs.Prelude.{◌≡◌, ◌≢◌, ℕ, ◌≤◌, List, [], ◌∷◌, ◌++◌, slice_get, take, Some}
use Rattle.std.specs.List.Sorted.{IsNonDecreasing}
use Rattle.trace_base.specs.Flat.{flat, is_within}
use Rattle.trace_base.specs.Paths.{paths}
use Rattle.trace_base.specs.Stream.{moments, stack_after}
use Rattle.trace_base.specs.declared.stream.Event.TheVariants.{Enter, Leave}
use Rattle.trace_base.specs.declared.stream.TrackStream.{TrackStream}
use Rattle.profile_math.specs.Closing.{closed}
use Rattle.profile_math.specs.PathClosing.{closed_paths}
use Rattle.profile_math.specs.PathSum.{sum_of_paths, IsDepthFirst}
use Rattle.profile_math.specs.Sum.{sum_of, RisesByFunction}

-- A stream whose times don't fall from its start to its end. Each of its Leaves closes a call that is open,
-- none is left open, and functions are numbered from 1. Other than a legal one it may be of any size.
pub record IsComplete (s : TrackStream) : Type 0 where
  pub in_order : IsNonDecreasing (moments s)
  pub closes_open : (i t : ℕ) → slice_get s.events i ≡ Some (Leave t) → stack_after (take i s.events) ≢ []
  pub all_closed : stack_after s.events ≡ []
  pub functions : (i f t : ℕ) → slice_get s.events i ≡ Some (Enter f t) → 1 ≤ f

-- the profile of several streams is the sum of each one's
abbrev pub FlatOfStreams : Type 0
FlatOfStreams = (streams more : List TrackStream) (a b : ℕ)
    → flat (streams ++ more) a b ≡ sum_of (flat streams a b) (flat more a b)

-- the profile of two intervals, one after the other, is the sum of theirs
abbrev pub FlatOfIntervals : Type 0
FlatOfIntervals = (streams : List TrackStream) (a b c : ℕ) → a ≤ b → b ≤ c
    → flat streams a c ≡ sum_of (flat streams a b) (flat streams b c)

-- the stream of one call of the function, from just before its Enter to its Leave, which encloses the stream
abbrev pub call_of : ℕ → TrackStream → TrackStream
call_of f inner = record {
  start = inner.start;
  end = inner.end;
  events = Enter f inner.start ∷ (inner.events ++ Leave inner.end ∷ []);
}

-- the profile of a call is the closing of the profile of what it encloses
abbrev pub FlatOfCall : Type 0
FlatOfCall = (inner : TrackStream) (f a b : ℕ) → IsComplete inner → 1 ≤ f
    → flat (call_of f inner ∷ []) a b ≡ closed f (is_within a b inner.start) (flat (inner ∷ []) a b)

-- the rows of a flat profile rise by function, so that it can be added to
abbrev pub FlatRises : Type 0
FlatRises = (streams : List TrackStream) (a b : ℕ) → RisesByFunction (flat streams a b).rows

-- the call-tree profile of several streams is the sum of each one's
abbrev pub PathsOfStreams : Type 0
PathsOfStreams = (streams more : List TrackStream) (a b : ℕ)
    → paths (streams ++ more) a b ≡ sum_of_paths (paths streams a b) (paths more a b)

-- the call-tree profile of two intervals, one after the other, is the sum of theirs
abbrev pub PathsOfIntervals : Type 0
PathsOfIntervals = (streams : List TrackStream) (a b c : ℕ) → a ≤ b → b ≤ c
    → paths streams a c ≡ sum_of_paths (paths streams a b) (paths streams b c)

-- the call-tree profile of a call is the closing of the profile of what it encloses
abbrev pub PathsOfCall : Type 0
PathsOfCall = (inner : TrackStream) (f a b : ℕ) → IsComplete inner
    → paths (call_of f inner ∷ []) a b ≡ closed_paths f (is_within a b inner.start) (paths (inner ∷ []) a b)

-- the rows of a call-tree profile stand in depth-first order, so that it can be added to
abbrev pub PathsDepthFirst : Type 0
PathsDepthFirst = (streams : List TrackStream) (a b : ℕ) → IsDepthFirst (paths streams a b).rows
