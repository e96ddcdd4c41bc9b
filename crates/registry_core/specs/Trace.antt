-- A trace as the registry keeps it, while it is open and, once it ended, for those who still use it.
use Rattle.std.specs.Prelude.{◌≡◌, ℕ, ◌+◌, ◌-◌, ◌*◌, ◌<◌, ◌≤◌, ◌==◌, ◌&&◌, Bool, true, false, if◌then◌else◌}
use Rattle.std.specs.Prelude.{List, length, count_by, refl, replicate}
use Rattle.std.specs.Prelude.{slice_get, slice_set, Option, None, Some}
use Rattle.std.specs.Prelude.{is_some, nat_le, IsTrue}
use Rattle.std.specs.Coded.{Coded, code_by, coded×, coded_bool, coded_list, coded_option, coded_ℕ}
use Rattle.std.specs.List.{filter_map}
use Rattle.std.specs.Option.{option_and_then, option_map}
use Rattle.trace_base.specs.Info.{IsLegalInfo}
use Rattle.trace_base.specs.contracts.names.TraceInfo as trace_info
use Rattle.trace_base.specs.declared.names.TraceInfo.{TraceInfo}
use Rattle.hall_history.specs.declared.published.Published.{Published}
use Rattle.hall_history.specs.declared.published.Published.TheVariants.{Root, NotYet}
use Rattle.hall_history.specs.declared.listing.ListRow.{ListRow}
use Rattle.registry_core.specs.contracts.track_root.TrackRoot as track_root
use Rattle.registry_core.specs.declared.track_root.TrackRoot.{TrackRoot}

-- A trace: its id and what it was opened with, whether it ended and is kept for its users, whether it is
-- loading, how often queries that run name it, and, for each of its tracks, what is published of it.
pub record Trace : Type 0 where
  pub id : ℕ
  pub info : TraceInfo
  pub closing : Bool
  pub loading : Bool
  pub users : ℕ
  pub tracks : List (Option TrackRoot)

-- how many of its tracks are published
abbrev pub published_tracks : Trace → ℕ
published_tracks t = count_by is_some t.tracks

-- The places that are promised to it: while it is loading one for each track that isn't published yet, and
-- one for its end.
abbrev pub promise_of : Trace → ℕ
promise_of t = if t.loading then length t.tracks - published_tracks t + 1 else 0

-- the roots of tracks, in the order of the tracks
abbrev pub roots_in : List (Option TrackRoot) → List ℕ
roots_in tracks = filter_map (option_map (λ (r : TrackRoot). r.root)) tracks

-- whether it ended and nobody uses it
abbrev pub is_over : Trace → Bool
is_over t = t.closing && t.users == 0

-- ---- what is told of it

-- what is published of a track
abbrev pub root_of_track : List (Option TrackRoot) → ℕ → Option TrackRoot
root_of_track tracks track = option_and_then (λ slot. slot) (slice_get tracks track)

-- what was published of it by a place
abbrev pub seen_by_place : ℕ → Option TrackRoot → Published
seen_by_place place None = NotYet
seen_by_place place (Some r) = if nat_le r.place place then Root r.start r.root else NotYet

-- what is told of a track as of a place
abbrev pub published_by : Trace → ℕ → ℕ → Published
published_by t place track = seen_by_place place (root_of_track t.tracks track)

-- its row in a listing
abbrev pub list_row : Trace → ListRow
list_row t = record {
  id = t.id;
  tracks = length t.tracks;
  published = published_tracks t;
  loading = t.loading;
}

-- ---- what becomes of it

-- a trace that was just opened: no track is published, and nobody uses it
abbrev pub just_opened : ℕ → TraceInfo → Trace
just_opened id info = record {
  id = id;
  info = info;
  closing = false;
  loading = true;
  users = 0;
  tracks = replicate (length info.names.tracks) None;
}

-- with this published of a track
abbrev pub with_root : ℕ → TrackRoot → Trace → Trace
with_root track root t = record t { tracks = slice_set t.tracks track (Some root) }

-- once its load has ended
abbrev pub loaded : Trace → Trace
loaded t = record t { loading = false }

-- once it has ended, while it is kept for its users
abbrev pub kept_for_users : Trace → Trace
kept_for_users t = record t { closing = true; loading = false }

-- with so many users more, or fewer
abbrev pub used_more : ℕ → Trace → Trace
used_more n t = record t { users = t.users + n }

abbrev pub used_less : ℕ → Trace → Trace
used_less n t = record t { users = t.users - n }

-- ---- what holds of it

-- A trace at a place of the history. It has a slot for each of its tracks. One that has ended has users, and
-- isn't loading. Each entry adds two users at most.
pub record IsSoundTrace (place : ℕ) (t : Trace) : Type 0 where
  pub legal : IsLegalInfo t.info
  pub tracks : length t.tracks ≡ length t.info.names.tracks
  pub users : t.users ≤ 2 * place
  pub used : IsTrue t.closing → 0 < t.users
  pub ended : IsTrue t.closing → t.loading ≡ false

-- traces are stored as the tuple of their fields
abbrev pub trace_code : Coded Trace
trace_code =
    code_by (ℕ × (TraceInfo × (Bool × (Bool × (ℕ × List (Option TrackRoot))))))
    (coded× coded_ℕ (coded× trace_info.the_row.coded (coded× coded_bool (coded× coded_bool (coded× coded_ℕ
    (coded_list (coded_option track_root.the_row.coded)))))))
    (λ t. (t.id, (t.info, (t.closing, (t.loading, (t.users, t.tracks))))))
    (λ (id, (info, (closing, (loading, (users, tracks))))). record {
      id = id;
      info = info;
      closing = closing;
      loading = loading;
      users = users;
      tracks = tracks;
    }) (λ _. refl)
