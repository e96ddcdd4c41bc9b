-- Where the function stands that a line may enter.
use Rattle.std.specs.Prelude.{ℕ, Bool, true, false, List, [], ◌∷◌, ◌++◌, Option, Some, None, is_some}
use Rattle.std.specs.Prelude.{position}
use Rattle.std.specs.Prelude.{if◌then◌else◌}
use Rattle.std.specs.Option.{option_map_or}
use Rattle.std.specs.Str.{bytes_eq}
use Rattle.paje_model.specs.declared.function_place.FunctionPlace.{FunctionPlace}
use Rattle.paje_model.specs.declared.function_place.FunctionPlace.TheVariants.{NoCall, At, New}

-- the function of a text, among those that were entered
abbrev pub function_place : List (List ℕ) → Option (List ℕ) → FunctionPlace
function_place functions None = NoCall
function_place functions (Some text) = option_map_or At (position (bytes_eq text) functions) New

-- the functions behind a line that may enter this one
abbrev pub with_function : List (List ℕ) → Option (List ℕ) → List (List ℕ)
with_function functions None = functions
with_function functions (Some text) = functions
    ++ (if is_some (position (bytes_eq text) functions) then [] else text ∷ [])

-- no line before entered it
abbrev pub is_new : FunctionPlace → Bool
is_new New = true
is_new _ = false

-- the text of the function, if there is one
abbrev pub text_entered : FunctionPlace → List ℕ → Option (List ℕ)
text_entered NoCall text = None
text_entered _ text = Some text
