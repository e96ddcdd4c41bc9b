-- The canonical text of a trace.
use Rattle.std.specs.Prelude.{ℕ, ◌-◌, List, [], ◌∷◌, ◌++◌, map, drop, codes, decimal, slice_get, unwrap_or}
use Rattle.std.specs.Prelude.{if◌then◌else◌}
use Rattle.std.specs.List.{enumerate_from, flat_map, zip}
use Rattle.trace_base.specs.declared.messages.LinkEvent.{LinkEvent}
use Rattle.trace_base.specs.declared.names.Container.{Container}
use Rattle.trace_base.specs.declared.names.Track.{Track}
use Rattle.trace_base.specs.declared.stream.Event.{Event}
use Rattle.trace_base.specs.declared.stream.Event.TheVariants.{Enter, Leave}
use Rattle.trace_base.specs.declared.stream.TrackStream.{TrackStream}
use Rattle.trace_base.specs.declared.text.TraceText.{TraceText}
use Rattle.paje_print.specs.WrittenEvents.{definitions_written}
use Rattle.paje_print.specs.WrittenNumbers.{container_alias, link_type_alias, seconds_text, state_type_alias}
use Rattle.paje_print.specs.WrittenWords.{WrittenLine, bare, lines_text, quoted}

-- ---- types

-- the type of all containers but the root
abbrev pub process_type_line : WrittenLine
process_type_line = bare (codes "0") ∷ bare (codes "P") ∷ bare (codes "0") ∷ quoted (codes "P") ∷ []

-- a type by its place, counted from 0, and its name
abbrev pub state_type_line : ℕ × List ℕ → WrittenLine
state_type_line p = bare (codes "1") ∷ bare (state_type_alias p.0) ∷ bare (codes "P") ∷ quoted p.1 ∷ []

abbrev pub link_type_line : ℕ × List ℕ → WrittenLine
link_type_line p = bare (codes "2") ∷ bare (link_type_alias p.0) ∷ bare (codes "P") ∷ bare (codes "P")
    ∷ bare (codes "P") ∷ quoted p.1 ∷ []

-- ---- containers, by their places; the root has place 0 and no line

abbrev pub placed_containers : TraceText → List (ℕ × Container)
placed_containers t = enumerate_from 1 (drop 1 t.names.containers)

abbrev pub create_line : ℕ × Container → WrittenLine
create_line p = bare (codes "3") ∷ bare (seconds_text p.1.start) ∷ bare (container_alias p.0)
    ∷ bare (codes "P") ∷ bare (codes "0") ∷ quoted p.1.name ∷ []

abbrev pub destroy_line : ℕ × Container → WrittenLine
destroy_line p = bare (codes "4") ∷ bare (seconds_text p.1.end) ∷ bare (codes "P")
    ∷ bare (container_alias p.0) ∷ []

-- ---- tracks

-- the text of the function of this number, counted from 1
abbrev pub text_of_function : List (List ℕ) → ℕ → List ℕ
text_of_function functions f = unwrap_or (slice_get functions (f - 1)) []

-- It makes the track known, and leaves no call, as none is open.
abbrev pub reset_line : Track → ℕ → WrittenLine
reset_line track start = bare (codes "7") ∷ bare (seconds_text start) ∷ bare (state_type_alias track.kind)
    ∷ bare (container_alias track.container) ∷ []

abbrev pub state_line : List (List ℕ) → Track → Event → WrittenLine
state_line functions track (Enter f time) = bare (codes "5") ∷ bare (seconds_text time)
    ∷ bare (state_type_alias track.kind) ∷ bare (container_alias track.container)
    ∷ quoted (text_of_function functions f) ∷ []
state_line functions track (Leave time) = bare (codes "6") ∷ bare (seconds_text time)
    ∷ bare (state_type_alias track.kind) ∷ bare (container_alias track.container) ∷ []

abbrev pub track_lines : List (List ℕ) → Track × TrackStream → List WrittenLine
track_lines functions p = reset_line p.0 p.1.start ∷ map (state_line functions p.0) p.1.events

-- ---- link events

abbrev pub link_words : LinkEvent → WrittenLine
link_words l = bare (seconds_text l.time) ∷ bare (link_type_alias l.kind) ∷ bare (codes "0")
    ∷ bare (codes "m") ∷ bare (container_alias l.container) ∷ quoted l.key ∷ []

abbrev pub link_line : LinkEvent → WrittenLine
link_line l = if l.starts then bare (codes "8") ∷ link_words l ++ bare (decimal l.size) ∷ []
    else bare (codes "9") ∷ link_words l

-- ---- the text

-- the event lines, in order
abbrev pub event_lines_written : TraceText → List WrittenLine
event_lines_written t = process_type_line ∷ map state_type_line (enumerate_from 0 t.names.kinds)
    ++ map link_type_line (enumerate_from 0 t.names.link_kinds)
    ++ map create_line (placed_containers t)
    ++ flat_map (track_lines t.names.functions) (zip t.names.tracks t.tracks)
    ++ map link_line t.links
    ++ map destroy_line (placed_containers t)

abbrev pub canonical_lines : TraceText → List WrittenLine
canonical_lines t = definitions_written ++ event_lines_written t

unfoldable pub canonical_text : TraceText → List ℕ
canonical_text t = lines_text (canonical_lines t)
