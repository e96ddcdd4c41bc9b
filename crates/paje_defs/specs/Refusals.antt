-- Lists of lines of which one may be refused by the lines before it.
use Rattle.std.specs.Prelude.{Bool, List, [], ◌∷◌, ◌++◌, Option, Some, None, is_some, if◌then◌else◌}
use Rattle.std.specs.List.{find}
use Rattle.std.specs.Option.{option_and_then, option_map_or}

-- a line, with the lines before it
pub record Placed (X : Type 0) : Type 0 where
  pub before : List X
  pub line : X

abbrev pub placed_behind : {X : Type 0} → List X → List X → List (Placed X)
placed_behind before [] = []
placed_behind before (line ∷ lines) = record { before = before; line = line }
    ∷ placed_behind (before ++ line ∷ []) lines

-- each line of a list
abbrev pub placed : {X : Type 0} → List X → List (Placed X)
placed lines = placed_behind [] lines

-- ---- reasons in their order

abbrev pub when : {F : Type 0} → Bool → F → Option F
when holds fault = if holds then Some fault else None

-- the first reason that there is
abbrev pub first_of : {F : Type 0} → List (Option F) → Option F
first_of [] = None
first_of (Some fault ∷ reasons) = Some fault
first_of (None ∷ reasons) = first_of reasons

-- ---- the first refused line

-- by the reason of a line and those before it
abbrev pub first_refused : {X F : Type 0} → (Placed X → Option F) → List X → Option (Placed X)
first_refused reason lines = find (λ p. is_some (reason p)) (placed lines)

-- why it is refused
abbrev pub refusal : {X F : Type 0} → (Placed X → Option F) → List X → Option F
refusal reason lines = option_and_then reason (first_refused reason lines)

-- the lines before it, all where none is refused
abbrev pub taken : {X F : Type 0} → (Placed X → Option F) → List X → List X
taken reason lines = option_map_or (λ p. p.before) (first_refused reason lines) lines
