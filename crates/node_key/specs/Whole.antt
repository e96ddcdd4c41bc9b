-- The profiles of a whole tree. They go over all its time and one nanosecond more, so that a call counts that
-- begins where the tree ends and takes no time.
use Rattle.std.specs.Prelude.{◌+◌, List, [], ◌∷◌}
use Rattle.trace_base.specs.Flat.{flat}
use Rattle.trace_base.specs.Paths.{paths}
use Rattle.trace_base.specs.declared.profile.PathProfile.{PathProfile}
use Rattle.trace_base.specs.declared.profile.Profile.{Profile}
use Rattle.trace_base.specs.declared.stream.TrackStream.{TrackStream}
use Rattle.node_key.specs.Events.{stream_from}
use Rattle.node_key.specs.Tree.{Tree}

-- the tree as the only stream, from the time 0 on
abbrev pub whole_stream : Tree → List TrackStream
whole_stream t = stream_from t 0 ∷ []

abbrev pub whole_flat : Tree → Profile
whole_flat t = flat (whole_stream t) 0 (t.dur + 1)

abbrev pub whole_paths : Tree → PathProfile
whole_paths t = paths (whole_stream t) 0 (t.dur + 1)
