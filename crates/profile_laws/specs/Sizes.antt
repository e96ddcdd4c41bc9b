-- How large the numbers of a profile can be.
use Rattle.std.specs.Prelude.{ℕ, ◌-◌, ◌<◌, ◌^◌, List, length, filter, sum_by}
use Rattle.std.specs.List.{AllByRecursion}
use Rattle.profile_math.specs.Laws.{IsComplete}
use Rattle.trace_base.specs.Stream.{is_enter}
use Rattle.trace_base.specs.declared.stream.TrackStream.{TrackStream}

-- how long a stream lasts, in nanoseconds
abbrev pub lasts : TrackStream → ℕ
lasts s = s.end - s.start

-- how many calls it has
abbrev pub enters : TrackStream → ℕ
enters s = length (filter is_enter s.events)

-- the streams are complete, and together they last so long and have so many calls that the numbers of their
-- profile fit
pub record FitTogether (streams : List TrackStream) : Type 0 where
  pub complete : AllByRecursion IsComplete streams
  pub time : sum_by lasts streams < 2 ^ 128
  pub calls : sum_by enters streams < 2 ^ 64
