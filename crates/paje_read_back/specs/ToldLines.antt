-- What the event lines of a canonical text tell.
use Rattle.std.specs.Prelude.{ℕ, ◌+◌, List, ◌∷◌, ◌++◌, map, codes, decimal, length, Option, Some, None}
use Rattle.std.specs.Prelude.{if◌then◌else◌}
use Rattle.std.specs.List.{enumerate_from, flat_map, zip}
use Rattle.trace_base.specs.declared.messages.LinkEvent.{LinkEvent}
use Rattle.trace_base.specs.declared.names.Container.{Container}
use Rattle.trace_base.specs.declared.names.Track.{Track}
use Rattle.trace_base.specs.declared.stream.Event.{Event}
use Rattle.trace_base.specs.declared.stream.Event.TheVariants.{Enter, Leave}
use Rattle.trace_base.specs.declared.stream.TrackStream.{TrackStream}
use Rattle.trace_base.specs.declared.text.TraceText.{TraceText}
use Rattle.paje_defs.specs.declared.event_name.EventName.TheVariants as events
use Rattle.paje_defs.specs.declared.role.Role.{Role}
use Rattle.paje_defs.specs.declared.role.Role.TheVariants as roles
use Rattle.paje_lines.specs.EventLine.{EventLine}
use Rattle.paje_lines.specs.Examples.{Unnumbered, container_texts, declares, declares_link, from}
use Rattle.paje_lines.specs.Examples.{leave_texts, line_with, state_texts}
use Rattle.paje_print.specs.CanonicalText.{placed_containers, text_of_function}
use Rattle.paje_print.specs.WrittenEvents.{definitions_written}
use Rattle.paje_print.specs.WrittenNumbers.{container_alias, link_type_alias, seconds_text, state_type_alias}

abbrev pub Texts : Type 0
Texts = Role → Option (List ℕ)

-- these texts, and that of a time
abbrev pub with_time : ℕ → Texts → Texts
with_time time texts roles.Time = Some (seconds_text time)
with_time time texts role = texts role

-- ---- types

abbrev pub process_type_told : Unnumbered
process_type_told = declares events.DefineContainerType (Some (codes "P")) (codes "0") (codes "P")

abbrev pub state_type_told : ℕ × List ℕ → Unnumbered
state_type_told p = declares events.DefineStateType (Some (state_type_alias p.0)) (codes "P") p.1

abbrev pub link_type_told : ℕ × List ℕ → Unnumbered
link_type_told p = declares_link (link_type_alias p.0) (codes "P") (codes "P") (codes "P") p.1

-- ---- containers

abbrev pub create_told : ℕ × Container → Unnumbered
create_told p = line_with events.CreateContainer p.1.start (with_time p.1.start
    (container_texts (Some (container_alias p.0)) (codes "P") (codes "0") p.1.name))

abbrev pub destroyed_texts : List ℕ → List ℕ → Texts
destroyed_texts kind name roles.Kind = Some kind
destroyed_texts kind name roles.Name = Some name
destroyed_texts kind name _ = None

abbrev pub destroy_told : ℕ × Container → Unnumbered
destroy_told p = line_with events.DestroyContainer p.1.end (with_time p.1.end
    (destroyed_texts (codes "P") (container_alias p.0)))

-- ---- tracks

abbrev pub reset_told : Track → ℕ → Unnumbered
reset_told track start = line_with events.ResetState start (with_time start
    (leave_texts (state_type_alias track.kind) (container_alias track.container)))

abbrev pub state_told : List (List ℕ) → Track → Event → Unnumbered
state_told functions track (Enter f time) = line_with events.PushState time (with_time time
    (state_texts (state_type_alias track.kind) (container_alias track.container)
    (text_of_function functions f)))
state_told functions track (Leave time) = line_with events.PopState time (with_time time
    (leave_texts (state_type_alias track.kind) (container_alias track.container)))

abbrev pub track_told : List (List ℕ) → Track × TrackStream → List Unnumbered
track_told functions p = reset_told p.0 p.1.start ∷ map (state_told functions p.0) p.1.events

-- ---- link events

-- the texts of both ends
abbrev pub both_ends_texts : LinkEvent → Texts
both_ends_texts l roles.Kind = Some (link_type_alias l.kind)
both_ends_texts l roles.Holder = Some (codes "0")
both_ends_texts l roles.Value = Some (codes "m")
both_ends_texts l roles.Key = Some l.key
both_ends_texts l _ = None

abbrev pub start_texts : LinkEvent → Texts
start_texts l roles.From = Some (container_alias l.container)
start_texts l roles.Size = Some (decimal l.size)
start_texts l role = both_ends_texts l role

abbrev pub end_texts : LinkEvent → Texts
end_texts l roles.To = Some (container_alias l.container)
end_texts l role = both_ends_texts l role

abbrev pub start_told : LinkEvent → Unnumbered
start_told l number = record {
  number = number;
  event = events.StartLink;
  time = l.time;
  size = l.size;
  text = with_time l.time (start_texts l);
}

abbrev pub end_told : LinkEvent → Unnumbered
end_told l = line_with events.EndLink l.time (with_time l.time (end_texts l))

abbrev pub link_told : LinkEvent → Unnumbered
link_told l = if l.starts then start_told l else end_told l

-- ---- the lines

abbrev pub types_told : TraceText → List Unnumbered
types_told t = process_type_told ∷ map state_type_told (enumerate_from 0 t.names.kinds)
    ++ map link_type_told (enumerate_from 0 t.names.link_kinds)

abbrev pub containers_told : TraceText → List Unnumbered
containers_told t = map create_told (placed_containers t)

abbrev pub states_told : TraceText → List Unnumbered
states_told t = flat_map (track_told t.names.functions) (zip t.names.tracks t.tracks)

abbrev pub links_told : TraceText → List Unnumbered
links_told t = map link_told t.links

abbrev pub ends_told : TraceText → List Unnumbered
ends_told t = map destroy_told (placed_containers t)

-- The definitions come before them.
abbrev pub first_told : ℕ
first_told = length definitions_written + 1

unfoldable pub told_lines : TraceText → List EventLine
told_lines t = from first_told (types_told t ++ containers_told t ++ states_told t ++ links_told t
    ++ ends_told t)

-- the lines that declare types and containers
abbrev pub declarations_told : TraceText → List EventLine
declarations_told t = from first_told (types_told t ++ containers_told t)
