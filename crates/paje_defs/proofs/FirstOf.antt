-- The first of one reason.
use Rattle.std.proofs.Common.{None, Option, Some, [], refl, ◌∷◌, ◌≡◌}
use Rattle.paje_defs.specs.Refusals.{first_of}

pub first_one : {F : Type 0} (o : Option F) → first_of (o ∷ []) ≡ o
first_one None = refl
first_one (Some f) = refl
