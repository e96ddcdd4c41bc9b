-- What it means that some bytes were skipped.
use Rattle.std.specs.Prelude.{◌≡◌, ◌≢◌, ℕ, List, [], ◌∷◌, ◌++◌, Option, None, Some}
use Rattle.request_reader.specs.Requests.{line_end}
use Rattle.request_reader.specs.Incoming.{Takes}
use Rattle.request_reader.specs.declared.skip.Skipped.{Skipped}
use Rattle.request_reader.specs.declared.skip.Skipped.TheVariants.{Whole, Cut, Failed}

-- no newline stands in the bytes
abbrev pub HasNoNewline : List ℕ → Type 0
HasNoNewline bytes = line_end bytes ≡ None

-- some bytes without a newline, and then one
abbrev pub IsWholeLine : List ℕ → Type 0
IsWholeLine bytes = (line : List ℕ) × (bytes ≡ line ++ 10 ∷ []) × HasNoNewline line

-- where the source tells, it told that nothing is left
abbrev pub NothingLeft : Option (List ℕ) → Type 0
NothingLeft left = left ≢ None → left ≡ Some []

-- the bytes taken are all that were to be skipped, or a part of them
abbrev pub Skips : (List ℕ → Type 0) → (List ℕ → Type 0) → Option (List ℕ) → Option (List ℕ) → Skipped
    → Type 0
Skips all part old new Whole = Takes old new all
Skips all part old new Cut = Takes old new part × NothingLeft new
Skips all part old new Failed = Takes old new part

-- no byte waits where the source gave none
abbrev pub EmptiesUnlessWhole : Skipped → List ℕ → Type 0
EmptiesUnlessWhole Whole pending = Unit {0}
EmptiesUnlessWhole Cut pending = pending ≡ []
EmptiesUnlessWhole Failed pending = pending ≡ []
