-- The texts of the fields of an event line, by their roles.
use Rattle.std.proofs.Math.Bool.{Bool-set}
use Rattle.std.specs.Prelude.{ℕ, ◌+◌, List, Option, slice_get}
use Rattle.std.specs.List.{AllByRecursion, AllByRecursion-prop}
use Rattle.std.specs.Option.{option_and_then, IsSome}
use Rattle.paje_defs.specs.declared.event_name.EventName.{EventName}
use Rattle.paje_defs.specs.declared.role.Role.{Role}
use Rattle.paje_defs.specs.declared.texts.Texts.{Texts}
use Rattle.paje_defs.specs.Places.{place_by_role}
use Rattle.paje_defs.specs.Role.{needed}
use Rattle.paje_defs.specs.Words.{words_in}

-- the text of the field at a place: the first word of a line is its number
abbrev pub text_at : List (List ℕ) → Option ℕ → Option (List ℕ)
text_at words place = option_and_then (λ at. slice_get words (at + 1)) place

abbrev pub text_by_role : Texts → Role → Option (List ℕ)
text_by_role t role = text_at (words_in t.words) (place_by_role t.places.now role)

-- each role that the event needs has a text
abbrev pub HasNeeded : EventName → Texts → Type 0
HasNeeded event t = AllByRecursion (λ role. IsSome (text_by_role t role)) (needed event)

pub HasNeeded-prop : (event : EventName) (t : Texts) → IsProp (HasNeeded event t)
HasNeeded-prop event t = AllByRecursion-prop (λ role. IsSome (text_by_role t role)) (λ role. Bool-set _ _)
    (needed event)
