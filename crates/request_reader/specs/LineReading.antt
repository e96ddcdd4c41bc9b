-- What it means that a line was read.
use Rattle.std.specs.Prelude.{◌≡◌, ◌≢◌, ℕ, ◌<◌, List, [], ◌∷◌, ◌++◌, length, Option}
use Rattle.trace_base.specs.Outside.{Told}
use Rattle.trace_base.specs.declared.limits.TheConstants.{MAX_REQUEST_LINE}
use Rattle.request_reader.specs.Incoming.{Takes}
use Rattle.request_reader.specs.Skipping.{HasNoNewline, NothingLeft}
use Rattle.request_reader.specs.declared.read_line.LineEnd.{LineEnd}
use Rattle.request_reader.specs.declared.read_line.LineEnd.TheVariants.{Whole, Long, Nothing, Cut, Failed}

-- a line that is too long for a request, with its newline
abbrev pub IsLongLine : List ℕ → Type 0
IsLongLine bytes = (line : List ℕ) × (bytes ≡ line ++ 10 ∷ []) × HasNoNewline line
    × (MAX_REQUEST_LINE < length line)

-- The bytes taken are the line with its newline. Where the source ends or fails, they have no newline.
abbrev pub ReadsLine : Option (List ℕ) → Option (List ℕ) → List ℕ → LineEnd → Type 0
ReadsLine old new line Whole = Takes old new (λ taken. taken ≡ line ++ 10 ∷ []) × HasNoNewline line
ReadsLine old new line Long = Takes old new IsLongLine
ReadsLine old new line Nothing = Told old new (λ was now. (was ≡ []) × (now ≡ []))
ReadsLine old new line Cut = Takes old new (λ taken. (taken ≢ []) × HasNoNewline taken) × NothingLeft new
ReadsLine old new line Failed = Takes old new HasNoNewline

-- no byte waits where the source gave none
abbrev pub EmptiesAtEnd : LineEnd → List ℕ → Type 0
EmptiesAtEnd Whole pending = Unit {0}
EmptiesAtEnd Long pending = Unit {0}
EmptiesAtEnd Nothing pending = pending ≡ []
EmptiesAtEnd Cut pending = pending ≡ []
EmptiesAtEnd Failed pending = pending ≡ []

-- it was the line that waited, whole or too long
abbrev pub ReadsWaiting : List ℕ → List ℕ → LineEnd → Type 0
ReadsWaiting waited line Whole = line ≡ waited
ReadsWaiting waited line Long = MAX_REQUEST_LINE < length waited
ReadsWaiting waited line Nothing = ⊥
ReadsWaiting waited line Cut = ⊥
ReadsWaiting waited line Failed = ⊥
