-- What the raw events of a track mean: the call stack, its pieces in time, and which streams are legal.
use Rattle.std.specs.Prelude.{◌≡◌, ◌≢◌, ℕ, ◌+◌, ◌-◌, ◌≤◌, Bool, true, false, List, [], ◌∷◌, ◌++◌, length}
use Rattle.std.specs.Prelude.{take, map, fold, filter, slice_index, slice_get, Some}
use Rattle.std.specs.List.{range_with_len}
use Rattle.std.specs.List.Sorted.{IsNonDecreasing}
use Rattle.trace_base.specs.declared.limits.TheConstants.{MAX_TIME, MAX_OPEN_CALLS, MAX_STATE_EVENTS}
use Rattle.trace_base.specs.declared.limits.TheConstants.{MAX_FUNCTIONS}
use Rattle.trace_base.specs.declared.stream.Event.{Event}
use Rattle.trace_base.specs.declared.stream.Event.TheVariants.{Enter, Leave}
use Rattle.trace_base.specs.declared.stream.TrackStream.{TrackStream}

-- when the event comes, in nanoseconds
abbrev pub time_of : Event → ℕ
time_of (Enter f t) = t
time_of (Leave t) = t

-- whether the event enters a call
abbrev pub is_enter : Event → Bool
is_enter (Enter f t) = true
is_enter (Leave t) = false

-- the call stack after one more event: an Enter puts its function innermost, a Leave takes the innermost away
abbrev pub stack_step : List ℕ → Event → List ℕ
stack_step stack (Enter f t) = stack ++ f ∷ []
stack_step stack (Leave t) = take (length stack - 1) stack

-- the functions of the calls that are open after these events, the outermost first
unfoldable pub stack_after : List Event → List ℕ
stack_after events = fold stack_step [] events

-- the moments between which nothing happens on the track: its start, the time of each event, its end
abbrev pub moments : TrackStream → List ℕ
moments s = s.start ∷ map time_of s.events ++ s.end ∷ []

-- a part of the track's time in which the call stack stays as it is: the half-open interval, and that stack
pub record Piece : Type 0 where
  pub from : ℕ
  pub to : ℕ
  pub stack : List ℕ

-- the piece that follows the first i events
abbrev pub piece : TrackStream → ℕ → Piece
piece s i = record {
  from = slice_index (moments s) i;
  to = slice_index (moments s) (i + 1);
  stack = stack_after (take i s.events);
}

-- the pieces of the track, one more than it has events
unfoldable pub pieces : TrackStream → List Piece
pieces s = map (piece s) (range_with_len 0 (length s.events + 1))

-- The stream of a track within the limits: times don't fall and lie from its start to its end, each Leave
-- closes a call that is open, and none is left open.
pub record IsLegal (s : TrackStream) : Type 0 where
  pub in_time : s.end ≤ MAX_TIME
  pub in_order : IsNonDecreasing (moments s)
  pub closes_open : (i t : ℕ) → slice_get s.events i ≡ Some (Leave t) → stack_after (take i s.events) ≢ []
  pub all_closed : stack_after s.events ≡ []
  pub depth : (i : ℕ) → length (stack_after (take i s.events)) ≤ MAX_OPEN_CALLS
  pub calls : length (filter is_enter s.events) ≤ MAX_STATE_EVENTS
  pub functions : (i f t : ℕ) → slice_get s.events i ≡ Some (Enter f t) → (1 ≤ f) × (f ≤ MAX_FUNCTIONS)
