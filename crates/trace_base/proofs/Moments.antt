-- How many moments a stream has.
use Rattle.std.proofs.Common.{[], arith, length, length-append, map, ◌+◌, ◌∷◌, ◌≡◌}
use Rattle.std.proofs.lemmas.List.{length-map}
use Rattle.trace_base.specs.Stream.{moments, time_of}
use Rattle.trace_base.specs.declared.stream.TrackStream.{TrackStream}

pub length-moments : (s : TrackStream) → length (moments s) ≡ length s.events + 2
length-moments s = omega (
  arith,
  length-append (map time_of s.events) (s.end ∷ []),
  length-map s.events time_of,
)
