-- The flat profile of streams in time.
use Rattle.std.proofs.Common.{ℕ, ◌+◌, ◌-◌, [], ◌∷◌, ap, ◌∙◌, map, max, min, zero-add}
use Rattle.trace_base.specs.Flat.{flat, greatest_function, time_with}
use Rattle.trace_base.specs.Stream.{pieces, stack_after}
use Rattle.trace_base.specs.declared.profile.Profile.{Profile}
use Rattle.profile_laws.specs.Laws.{OfEnclosed, OfIdle, OfJoined, OfLater, OfOutside}
use Rattle.profile_laws.specs.Streams.{joined, later}
use Rattle.profile_laws.proofs.AlikeProfiles.{flat-alike}
use Rattle.profile_laws.proofs.JoinedStreams.{joined-alike}
use Rattle.profile_laws.proofs.LaterStreams.{later-alike}
use Rattle.profile_laws.proofs.StreamsWithin.{enclosed-alike, outside-alike}

pub flat-joined : OfJoined flat
flat-joined s t more a b complete_s complete_t e = flat-alike (joined s t ∷ more) (s ∷ t ∷ more) a b a b
    (joined-alike s t more a b complete_s complete_t e)

pub flat-later : OfLater flat
flat-later streams d a b = flat-alike (map (later d) streams) streams (a + d) (b + d) a b
    (later-alike streams d a b)

pub flat-enclosed : OfEnclosed flat
flat-enclosed s a b complete l m = flat-alike (s ∷ []) (s ∷ []) a b s.start (s.end + 1)
    (enclosed-alike s a b complete l m)

pub flat-outside : OfOutside flat
flat-outside s more a b complete h = flat-alike (s ∷ more) more a b a b (outside-alike s more a b complete h)

pub flat-idle : OfIdle flat (λ time. record { bare = time; rows = [] })
unfolding flat greatest_function time_with pieces stack_after
flat-idle from to a b =
    let time : ℕ = min to b - max from a in
    ap (λ n. let p : Profile = record { bare = n; rows = [] } in p) (zero-add (0 + time) ∙ zero-add time)

pub ruleset laws = (flat-joined, flat-later, flat-enclosed, flat-outside, flat-idle)
