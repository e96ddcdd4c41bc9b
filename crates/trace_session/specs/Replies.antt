-- The replies that requests have of their own, at a place of a history.
use Rattle.std.specs.Prelude.{ℕ, ◌-◌, if◌then◌else◌, zero, suc, List, [], length}
use Rattle.std.specs.Prelude.{map, filter_map, slice_get, slice_index_or, Option, None}
use Rattle.std.specs.List.{range_with_len}
use Rattle.std.specs.Option.{option_map_or}
use Rattle.trace_base.specs.Flat.{flat}
use Rattle.trace_base.specs.Messages.{table_of}
use Rattle.trace_base.specs.declared.names.TraceInfo.{TraceInfo}
use Rattle.trace_base.specs.declared.profile.Row.{Row}
use Rattle.trace_base.specs.declared.profile.Profile.{Profile}
use Rattle.trace_base.specs.declared.stream.TrackStream.{TrackStream}
use Rattle.trace_base.specs.declared.text.TraceText.{TraceText}
use Rattle.hall_history.specs.History.{Entry, info_of, stream_of, is_open, tracks_of}
use Rattle.session_proto.specs.declared.reply.NamedRow.{NamedRow}
use Rattle.session_proto.specs.declared.reply.No.TheVariants as no
use Rattle.session_proto.specs.declared.reply.Reply.{Reply}
use Rattle.session_proto.specs.declared.reply.Reply.TheVariants as reply

-- the entry at a place, counted from 1
abbrev pub entry_at : List Entry → ℕ → Option Entry
entry_at history zero = None
entry_at history (suc i) = slice_get history i

-- the reply to a text whose trace was opened under this id
abbrev pub opened_reply : ℕ → TraceText → ℕ → Reply
opened_reply id t place = reply.Put id (length t.names.tracks) (length t.names.functions)
    (length (table_of t.links).messages) place

-- the streams of the tracks of a trace that are published, by track
unfoldable pub streams_of : List Entry → ℕ → List TrackStream
streams_of entries id = filter_map (stream_of entries id) (range_with_len 0 (tracks_of entries id))

-- the names of the trace's functions
abbrev pub functions_of : List Entry → ℕ → List (List ℕ)
functions_of entries id = option_map_or (λ (info : TraceInfo). info.names.functions) (info_of entries id) []

-- the row with the name of its function; functions count from 1
abbrev pub named : List (List ℕ) → Row → NamedRow
named functions row = record { row = row; name = slice_index_or functions (row.func - 1) [] }

-- the reply that gives a profile over some streams
abbrev pub profile_reply : ℕ → List (List ℕ) → ℕ → Profile → Reply
profile_reply over functions place p = reply.Flat over p.bare (map (named functions) p.rows) place

-- the flat profile of the trace's published tracks over [a, b), if the trace is open after these entries
unfoldable pub flat_reply : List Entry → ℕ → ℕ → ℕ → ℕ → Reply
flat_reply entries place id a b =
    if is_open entries id
    then profile_reply (length (streams_of entries id)) (functions_of entries id) place
    (flat (streams_of entries id) a b)
    else reply.No (no.Unknown id place)
