-- The calls of a list of events, as pairs of positions, and which of them lie in no other.
use Rattle.std.specs.Prelude.{ℕ, ◌+◌, ◌-◌, Bool, false, not, ◌&&◌, ◌==◌, nat_lt, List, length}
use Rattle.std.specs.Prelude.{filter}
use Rattle.std.specs.Prelude.{count_by, find, Option, Some, None, slice_get, take, drop, if◌then◌else◌}
use Rattle.std.specs.List.{filter_map, list_any, range_with_len}
use Rattle.std.specs.Option.{option_map}
use Rattle.trace_base.specs.Stream.{is_enter}
use Rattle.trace_base.specs.declared.stream.Event.{Event}

-- as many of the events are Leaves as are Enters
abbrev pub is_balanced : List Event → Bool
is_balanced es = count_by is_enter es == count_by (λ e. not (is_enter e)) es

-- the events from position i to position j, both included
abbrev pub events_between : ℕ → ℕ → List Event → List Event
events_between i j es = take (j + 1 - i) (drop i es)

-- the position of the Leave of the call that event i enters: the least later one up to which there are as
-- many Leaves as Enters
abbrev pub leave_of : List Event → ℕ → Option ℕ
leave_of es i = find (λ j. is_balanced (events_between i j es)) (range_with_len (i + 1) (length es - (i + 1)))

-- a call: the positions of its Enter and of its Leave
pub record Call : Type 0 where
  pub enter : ℕ
  pub leave : ℕ

-- whether there is an event, and it enters a call
abbrev pub enters_at : Option Event → Bool
enters_at None = false
enters_at (Some e) = is_enter e

-- the call that event i enters, if it is an Enter that is left
abbrev pub call_at : List Event → ℕ → Option Call
call_at es i =
    if enters_at (slice_get es i) then option_map (λ j. record { enter = i; leave = j }) (leave_of es i)
    else None

-- c lies in d
abbrev pub lies_in : Call → Call → Bool
lies_in c d = nat_lt d.enter c.enter && nat_lt c.leave d.leave

-- the calls whose Enter and Leave are among the events from `low` to `high`, not included, in the order of
-- their Enters
abbrev pub calls_within : List Event → ℕ → ℕ → List Call
calls_within es low high =
    filter (λ c. nat_lt c.leave high) (filter_map (call_at es) (range_with_len low (high - low)))

-- the calls of the events
abbrev pub calls : List Event → List Call
calls es = calls_within es 0 (length es)

-- those of them that lie in no other of them
unfoldable pub outer_calls : List Event → ℕ → ℕ → List Call
outer_calls es low high = filter (λ c. not (list_any (lies_in c) (calls_within es low high)))
    (calls_within es low high)

-- the calls within a call that lie in no other call within it
abbrev pub inner_calls : List Event → Call → List Call
inner_calls es c = outer_calls es (c.enter + 1) c.leave

-- the calls that lie in no other call
abbrev pub outermost_calls : List Event → List Call
outermost_calls es = outer_calls es 0 (length es)
