-- The laws of trees for both kinds of profile, by the laws of streams.
use Rattle.profile_laws.proofs.TreesParts.{of_call, of_group, of_inside}
use Rattle.profile_laws.specs.Laws.{OfCall, OfEnclosed, OfGroup, OfInside, OfJoined, OfLater}
use Rattle.profile_math.proofs.FlatCalls.{flat_call}
use Rattle.profile_math.proofs.PathCalls.{path_call}
use Rattle.profile_math.specs.Closing.{closed}
use Rattle.profile_math.specs.PathClosing.{closed_paths}
use Rattle.node_key.specs.Whole.{whole_flat, whole_paths}
use Rattle.trace_base.specs.Flat.{flat}
use Rattle.trace_base.specs.Paths.{paths}

-- ---- flat

pub flat-group : OfJoined flat → OfGroup flat
flat-group of_joined = of_group flat of_joined

pub flat-call : OfJoined flat → OfCall flat closed
flat-call of_joined = of_call flat closed of_joined flat_call

pub flat-inside : OfLater flat → OfEnclosed flat → OfInside flat whole_flat
flat-inside of_later of_enclosed = of_inside flat of_later of_enclosed

-- ---- by call paths

pub paths-group : OfJoined paths → OfGroup paths
paths-group of_joined = of_group paths of_joined

pub paths-call : OfJoined paths → OfCall paths closed_paths
paths-call of_joined =
    of_call paths closed_paths of_joined (λ inner f a b complete h. path_call inner f a b complete)

pub paths-inside : OfLater paths → OfEnclosed paths → OfInside paths whole_paths
paths-inside of_later of_enclosed = of_inside paths of_later of_enclosed
