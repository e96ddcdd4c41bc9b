use Rattle.std.proofs.Common.{List, ap}
use Rattle.trace_base.specs.Flat.{flat, greatest_function}
use Rattle.trace_base.specs.declared.profile.Profile.{Profile}
use Rattle.trace_base.specs.declared.profile.Row.{Row}
use Rattle.profile_walk.proofs.flat.ProfileNodeProfile.empty.Goals as goal

pub returns : goal.returns
unfolding flat greatest_function
returns c a b = ap (λ (rows : List Row). let p : Profile = record { bare = 0; rows = rows } in p)
    c.new.ensures
