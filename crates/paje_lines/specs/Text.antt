-- What the event lines of a trace say, where none of them is refused.
use Rattle.std.specs.Prelude.{ℕ, List, [], ◌∷◌, ◌++◌, map, filter_map, flat_map, replicate, Option}
use Rattle.std.specs.Prelude.{None}
use Rattle.std.specs.Prelude.{length, if◌then◌else◌}
use Rattle.std.specs.List.{range_with_len, zip}
use Rattle.std.specs.Option.{option_map, option_map_or, option_zip}
use Rattle.trace_base.specs.declared.messages.LinkEvent.{LinkEvent}
use Rattle.trace_base.specs.declared.names.Container.{Container}
use Rattle.trace_base.specs.declared.names.Track.{Track}
use Rattle.trace_base.specs.declared.names.TraceInfo.{TraceInfo}
use Rattle.trace_base.specs.declared.names.TraceNames.{TraceNames}
use Rattle.trace_base.specs.declared.stream.Event.{Event}
use Rattle.trace_base.specs.declared.stream.Event.TheVariants.{Enter, Leave}
use Rattle.trace_base.specs.declared.stream.TrackStream.{TrackStream}
use Rattle.trace_base.specs.declared.text.TraceText.{TraceText}
use Rattle.trace_base.specs.Messages.{table_of}
use Rattle.paje_defs.specs.declared.role.Role.TheVariants as roles
use Rattle.paje_lines.specs.EventLine.{EventLine, text_of, pops, clears, starts_link}
use Rattle.paje_defs.specs.Refusals.{Placed, placed}
use Rattle.paje_lines.specs.EventLine.{end_role, is_link_event}
use Rattle.paje_lines.specs.Types.{kinds_in, link_kinds_in, link_kind_named}
use Rattle.paje_lines.specs.Containers.{DeclaredContainer, containers_in, container_named, container_start}
use Rattle.paje_lines.specs.Containers.{container_end}
use Rattle.paje_lines.specs.Containers.{greatest}
use Rattle.paje_lines.specs.States.{tracks_in, states_of, open_calls, entered_text, functions_entered}
use Rattle.paje_lines.specs.States.{function_number}

-- ---- the events of a track

-- a Leave for each call that it leaves
abbrev pub left_at : Track → Placed EventLine → List Event
left_at track p = if clears p.line.event then replicate (open_calls p.before track) (Leave p.line.time)
    else (if pops p.line.event then Leave p.line.time ∷ [] else [])

-- an Enter of the function that it enters
abbrev pub entered_at : List (List ℕ) → Placed EventLine → List Event
entered_at functions p = option_map_or (λ text. Enter (function_number functions text) p.line.time ∷ [])
    (entered_text p) []

abbrev pub events_at : List (List ℕ) → Track → Placed EventLine → List Event
events_at functions track p = left_at track p ++ entered_at functions p

-- the events of a track up to its end, where a Leave comes for each call that is open
abbrev pub events_of : List EventLine → Track → List Event
events_of lines track = flat_map (events_at (functions_entered lines) track) (states_of lines track)
    ++ replicate (open_calls lines track) (Leave (container_end lines track.container))

-- it lasts as long as its container
abbrev pub track_stream : List EventLine → Track → TrackStream
track_stream lines track = record {
  start = container_start lines track.container;
  end = container_end lines track.container;
  events = events_of lines track;
}

-- ---- link events

abbrev pub link_at : Placed EventLine → Option LinkEvent
link_at p = if is_link_event p.line.event then option_map (λ both. record {
  starts = starts_link p.line.event;
  kind = both.0;
  key = text_of p.line roles.Key;
  container = both.1;
  time = p.line.time;
  size = if starts_link p.line.event then p.line.size else 0;
}) (option_zip (link_kind_named p.before (text_of p.line roles.Kind))
    (container_named p.before (text_of p.line (end_role p.line.event)))) else None

abbrev pub links_of : List EventLine → List LinkEvent
links_of lines = filter_map link_at (placed lines)

-- ---- the text

-- the container at a place of the list
abbrev pub container_of : List EventLine → ℕ × DeclaredContainer → Container
container_of lines p = record { name = p.1.entity.name; start = p.1.start; end = container_end lines p.0 }

abbrev pub containers_of : List EventLine → List Container
containers_of lines = map (container_of lines)
    (zip (range_with_len 0 (length (containers_in lines))) (containers_in lines))

abbrev pub names_of : List EventLine → TraceNames
names_of lines = record {
  end = greatest lines;
  containers = containers_of lines;
  kinds = kinds_in lines;
  link_kinds = link_kinds_in lines;
  tracks = tracks_in lines;
  functions = functions_entered lines;
}

-- what the lines say
abbrev pub text_said : List EventLine → TraceText
text_said lines = record {
  names = names_of lines;
  tracks = map (track_stream lines) (tracks_in lines);
  links = links_of lines;
}

-- what a hall keeps of a trace
abbrev pub info_of_text : TraceText → TraceInfo
info_of_text text = record { names = text.names; messages = table_of text.links }

abbrev pub info_said : List EventLine → TraceInfo
info_said lines = info_of_text (text_said lines)
