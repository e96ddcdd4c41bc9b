-- The front of a stream, and which event may come behind it.
use Rattle.std.specs.Prelude.{◌≡◌, ◌≢◌, ℕ, ◌+◌, ◌-◌, ◌<◌, ◌≤◌, List, [], ◌∷◌, length, filter, map, take}
use Rattle.std.specs.Prelude.{slice_get, slice_index_or, Some}
use Rattle.std.specs.List.Sorted.{IsNonDecreasing}
use Rattle.trace_base.specs.Stream.{is_enter, stack_after, time_of}
use Rattle.trace_base.specs.declared.limits.TheConstants.{MAX_FUNCTIONS, MAX_OPEN_CALLS, MAX_STATE_EVENTS}
use Rattle.trace_base.specs.declared.limits.TheConstants.{MAX_TIME}
use Rattle.trace_base.specs.declared.stream.Event.{Event}
use Rattle.trace_base.specs.declared.stream.Event.TheVariants.{Enter, Leave}
use Rattle.event_checks.specs.declared.front.Front.{Front}

-- the event may come next: not before the last one, and within the limits; a Leave ends a call that is open
abbrev pub MayCome : Front → Event → Type 0
MayCome front (Enter f t) = (front.last ≤ t) × (1 ≤ f) × (f ≤ MAX_FUNCTIONS) × (front.depth < MAX_OPEN_CALLS)
    × (front.calls < MAX_STATE_EVENTS)
MayCome front (Leave t) = (front.last ≤ t) × (1 ≤ front.depth)

-- a stream may end behind it: no call is open, and its last event isn't behind the end
abbrev pub MayEnd : Front → ℕ → Type 0
MayEnd front end = (front.depth ≡ 0) × (front.last ≤ end) × (end ≤ MAX_TIME)

-- the front with this event
abbrev pub front_after : Front → Event → Front
front_after front (Enter f t) = record { depth = front.depth + 1; last = t; calls = front.calls + 1 }
front_after front (Leave t) = record front { depth = front.depth - 1; last = t }

-- The events from a start on are such a front: each may come behind those before it.
pub record IsFront (start : ℕ) (events : List Event) (front : Front) : Type 0 where
  pub open_calls : front.depth ≡ length (stack_after events)
  pub all_calls : front.calls ≡ length (filter is_enter events)
  pub last_time : (d : ℕ) → slice_index_or (start ∷ map time_of events) (length events) d ≡ front.last
  pub in_order : IsNonDecreasing (start ∷ map time_of events)
  pub closes_open : (i t : ℕ) → slice_get events i ≡ Some (Leave t) → stack_after (take i events) ≢ []
  pub depth : (i : ℕ) → length (stack_after (take i events)) ≤ MAX_OPEN_CALLS
  pub few : front.calls ≤ MAX_STATE_EVENTS
  pub functions : (i f t : ℕ) → slice_get events i ≡ Some (Enter f t) → (1 ≤ f) × (f ≤ MAX_FUNCTIONS)
