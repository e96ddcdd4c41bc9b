-- The tracks of a trace, the functions that are called on them, and how many of their calls are open.
use Rattle.std.specs.Prelude.{ℕ, ◌+◌, ◌-◌, Bool, false, ◌&&◌, ◌==◌, List, map, filter, filter_map, fold}
use Rattle.std.specs.Prelude.{max}
use Rattle.std.specs.Prelude.{count_by, sum_by, Option, None, if◌then◌else◌}
use Rattle.std.specs.List.{after_last, last_or, position_or_len}
use Rattle.std.specs.Option.{option_map, option_map_or, option_zip}
use Rattle.std.specs.Str.{bytes_eq}
use Rattle.trace_base.specs.declared.names.Track.{Track}
use Rattle.paje_defs.specs.declared.event_name.EventName.{EventName}
use Rattle.paje_defs.specs.declared.role.Role.TheVariants as roles
use Rattle.paje_lines.specs.EventLine.{EventLine, text_of, is_state_event, enters, pushes}
use Rattle.paje_defs.specs.Refusals.{Placed, placed}
use Rattle.paje_lines.specs.EventLine.{pops}
use Rattle.paje_lines.specs.EventLine.{sets, clears}
use Rattle.paje_lines.specs.Found.{distinct_by}
use Rattle.paje_lines.specs.Types.{kind_named}
use Rattle.paje_lines.specs.Containers.{container_named, container_start}
use Rattle.paje_lines.specs.Values.{value_text}

-- ---- tracks

-- the pair of container and state type that a state event names
abbrev pub track_named : List EventLine → EventLine → Option Track
track_named before line = option_map (λ both. record { container = both.1; kind = both.0 })
    (option_zip (kind_named before (text_of line roles.Kind)) (container_named before (text_of line
    roles.Holder)))

abbrev pub track_at : Placed EventLine → Option Track
track_at p = if is_state_event p.line.event then track_named p.before p.line else None

abbrev pub is_same : Track → Track → Bool
is_same s t = (s.container == t.container) && (s.kind == t.kind)

-- the tracks, in the order of their first state events
abbrev pub tracks_in : List EventLine → List Track
tracks_in lines = distinct_by is_same (filter_map track_at (placed lines))

abbrev pub is_on : Track → Placed EventLine → Bool
is_on track p = option_map_or (is_same track) (track_at p) false

-- the state events of a track
abbrev pub states_of : List EventLine → Track → List (Placed EventLine)
states_of lines track = filter (is_on track) (placed lines)

-- how many state events there are
abbrev pub states_in : List EventLine → ℕ
states_in lines = count_by (λ line. is_state_event line.event) lines

-- ---- the last times

-- that of the track's last state event, else when its container was created
abbrev pub last_time : List EventLine → Track → ℕ
last_time lines track = option_map_or (λ p. p.line.time) (last_or None (states_of lines track))
    (container_start lines track.container)

-- the tracks of a container
abbrev pub container_tracks : List EventLine → ℕ → List Track
container_tracks lines container = filter (λ track. track.container == container) (tracks_in lines)

-- the greatest of when it was created and the last times of its tracks
abbrev pub latest : List EventLine → ℕ → ℕ
latest lines container = fold max (container_start lines container)
    (map (last_time lines) (container_tracks lines container))

-- ---- open calls

-- the last event that leaves all calls may enter one
abbrev pub entered_by_last : List EventName → ℕ
entered_by_last events = if option_map_or sets (last_or None (filter clears events)) false then 1 else 0

-- how many calls are open behind these events of a track: those entered since all were last left, less those
-- left since
abbrev pub open_behind : List EventName → ℕ
open_behind events = entered_by_last events + count_by pushes (after_last clears events)
    - count_by pops (after_last clears events)

abbrev pub open_calls : List EventLine → Track → ℕ
open_calls lines track = open_behind (map (λ p. p.line.event) (states_of lines track))

-- over all tracks of a container
abbrev pub open_in : List EventLine → ℕ → ℕ
open_in lines container = sum_by (open_calls lines) (container_tracks lines container)

-- ---- functions

-- the text of the value of a line that enters a call
abbrev pub entered_text : Placed EventLine → Option (List ℕ)
entered_text p = if enters p.line.event
    then option_map (λ kind. value_text p.before kind (text_of p.line roles.Value))
    (kind_named p.before (text_of p.line roles.Kind)) else None

-- the different texts, in the order of their first use
abbrev pub functions_entered : List EventLine → List (List ℕ)
functions_entered lines = distinct_by bytes_eq (filter_map entered_text (placed lines))

-- the number of a function, counted from 1
abbrev pub function_number : List (List ℕ) → List ℕ → ℕ
function_number functions text = position_or_len (bytes_eq text) functions + 1
