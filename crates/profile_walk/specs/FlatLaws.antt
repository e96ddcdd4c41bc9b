-- The flat profile is made node by node.
use Rattle.std.specs.Prelude.{[]}
use Rattle.node_key.specs.Whole.{whole_flat}
use Rattle.profile_laws.proofs.FlatFits.{flat-fits}
use Rattle.profile_laws.proofs.FlatOfStreams.{flat-enclosed, flat-idle, flat-joined, flat-later, flat-outside}
use Rattle.profile_laws.proofs.TreesProfiles.{flat-call, flat-group, flat-inside}
use Rattle.profile_math.proofs.FlatLaws.{flat-rises, flat-streams}
use Rattle.profile_math.specs.Closing.{closed}
use Rattle.profile_math.specs.Sum.{ProfileFits, RisesByFunction, sum_of}
use Rattle.profile_walk.specs.Laws.{ProfileLaws}
use Rattle.trace_base.specs.Flat.{flat}

pub flat_laws : ProfileLaws flat whole_flat (λ time. record { bare = time; rows = [] }) sum_of closed
    ProfileFits
    (λ p. RisesByFunction p.rows)
flat_laws = record {
  streams = flat-streams;
  ordered = flat-rises;
  fit = flat-fits;
  idle = flat-idle;
  outside = flat-outside;
  group = flat-group flat-joined;
  call = flat-call flat-joined;
  inside = flat-inside flat-later flat-enclosed;
}
