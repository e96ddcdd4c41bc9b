-- Streams that end where an interval begins or ends.
use Rattle.std.proofs.Common.{◌+◌, inl}
use Rattle.profile_laws.specs.Laws.{HasAllTimeWithin, HasNoTimeBefore}
use Rattle.profile_laws.proofs.StreamsWithin.{clip-enclosed, time-outside, time-within}

pub time-before : HasNoTimeBefore
time-before has s a b complete l = time-outside has s a b complete (inl l)

pub all-time-within : HasAllTimeWithin
all-time-within has s a b complete l m = time-within has s a b s.start (s.end + 1) complete
    (clip-enclosed a b s.start s.end l m)

pub ruleset laws = (time-before, all-time-within)
