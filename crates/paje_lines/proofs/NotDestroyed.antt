-- A container that isn't destroyed.
use Rattle.std.proofs.Common.{None, Option, Some, ap, is_some, refl, ◌≡◌}
use Rattle.std.proofs.lemmas.Bool.{true≢false}
use Rattle.paje_lines.specs.EventLine.{EventLine}
use Rattle.paje_lines.specs.Reasons.{destroyed_reason}

pub not_destroyed : (o : Option EventLine) → destroyed_reason o ≡ None → o ≡ None
not_destroyed None none = refl
not_destroyed (Some line) none = absurd (true≢false (ap is_some none))
