-- The call-tree profile of streams in time.
use Rattle.std.proofs.Common.{ℕ, ◌+◌, ◌-◌, [], ◌∷◌, ap, ◌∙◌, map, max, min, zero-add}
use Rattle.trace_base.specs.Flat.{time_with}
use Rattle.trace_base.specs.Paths.{call_paths, paths}
use Rattle.trace_base.specs.Stream.{pieces, stack_after}
use Rattle.trace_base.specs.declared.profile.PathProfile.{PathProfile}
use Rattle.profile_laws.specs.Laws.{OfEnclosed, OfIdle, OfJoined, OfLater, OfOutside}
use Rattle.profile_laws.specs.Streams.{joined, later}
use Rattle.profile_laws.proofs.AlikeProfiles.{paths-alike}
use Rattle.profile_laws.proofs.JoinedStreams.{joined-alike}
use Rattle.profile_laws.proofs.LaterStreams.{later-alike}
use Rattle.profile_laws.proofs.StreamsWithin.{enclosed-alike, outside-alike}

pub paths-joined : OfJoined paths
paths-joined s t more a b complete_s complete_t e = paths-alike (joined s t ∷ more) (s ∷ t ∷ more) a b a b
    (joined-alike s t more a b complete_s complete_t e)

pub paths-later : OfLater paths
paths-later streams d a b = paths-alike (map (later d) streams) streams (a + d) (b + d) a b
    (later-alike streams d a b)

pub paths-enclosed : OfEnclosed paths
paths-enclosed s a b complete l m = paths-alike (s ∷ []) (s ∷ []) a b s.start (s.end + 1)
    (enclosed-alike s a b complete l m)

pub paths-outside : OfOutside paths
paths-outside s more a b complete h = paths-alike (s ∷ more) more a b a b
    (outside-alike s more a b complete h)

pub paths-idle : OfIdle paths (λ time. record { bare = time; rows = [] })
unfolding paths call_paths time_with pieces stack_after
paths-idle from to a b =
    let time : ℕ = min to b - max from a in
    ap (λ n. let p : PathProfile = record { bare = n; rows = [] } in p) (zero-add (0 + time) ∙ zero-add time)

pub ruleset laws = (paths-joined, paths-later, paths-enclosed, paths-outside, paths-idle)
