-- Where no reason to refuse a line holds.
use Rattle.std.proofs.Common.{◌≡◌, ℕ, ◌<◌, List, [], ◌∷◌, Bool, false}
use Rattle.std.proofs.Common.{Option, Some, None, nat_le, refl, ap}
use Rattle.std.specs.List.{AllByRecursion}
use Rattle.std.specs.Option.{option_map}
use Rattle.paje_defs.specs.Refusals.{first_of, when}
use Rattle.paje_lines.specs.Reasons.{full, limit_of}
use Rattle.paje_lines.specs.declared.model_fault.ModelFault.TheVariants.{TooMany}
use Rattle.paje_lines.specs.declared.what.What.{What}
use Rattle.std.proofs.Common.{◌≡◌, ℕ, ◌<◌, List, [], ◌∷◌}
use Rattle.std.proofs.Common.{find, Bool, false}
use Rattle.std.proofs.Common.{Option, Some, None, refl, ap}
use Rattle.std.specs.Option.{option_map}
use Rattle.std.proofs.lemmas.Bool.{lt-leb}
use Rattle.paje_defs.specs.Refusals.{first_of, when}
use Rattle.paje_lines.specs.declared.model_fault.ModelFault.TheVariants.{DoubleAlias, TooMany}
use Rattle.paje_lines.specs.Found.{Entity, has_alias}
use Rattle.paje_lines.specs.Reasons.{alias_reason}
use Rattle.paje_lines.specs.Reasons.{full, limit_of, new_reason}

-- where each is none, there is none
pub all_none : {F : Type 0} (reasons : List (Option F)) → AllByRecursion (λ o. o ≡ None) reasons
    → first_of reasons ≡ None
all_none [] all = refl
all_none (None ∷ reasons) all = all_none reasons all.1
all_none (Some fault ∷ reasons) all = all.0

pub unless : {F : Type 0} (b : Bool) (fault : F) → b ≡ false → when b fault ≡ None
unless b fault e = ap (λ b. when b fault) e

-- ---- room

pub not-full : (kind : What) (count : ℕ) → count < limit_of kind → full kind count ≡ None
not-full kind count below = unless (nat_le (limit_of kind) count) (TooMany kind)
    (lt-leb (limit_of kind) count below)

-- a new entity, where there is room for one more
pub none-new : (kind : What) (entities : List Entity) (alias : List ℕ) (count : ℕ)
    → find (has_alias alias) entities ≡ None → count < limit_of kind
    → new_reason kind entities alias count ≡ None
none-new kind entities alias count new below = all_none (alias_reason entities alias ∷ full kind count ∷ [])
    (ap (option_map (λ e. DoubleAlias e.line)) new, (not-full kind count below, tt))
