-- What it means that the bytes of a PUT were read.
use Rattle.std.specs.Prelude.{◌≡◌, ℕ, ◌<◌, ◌≤◌, List, [], length, Option}
use Rattle.trace_base.specs.declared.limits.TheConstants.{MAX_TEXT}
use Rattle.request_reader.specs.Incoming.{Takes}
use Rattle.request_reader.specs.Skipping.{NothingLeft}
use Rattle.request_reader.specs.declared.read_text.TextEnd.{TextEnd}
use Rattle.request_reader.specs.declared.read_text.TextEnd.TheVariants.{Whole, Dropped, Large, Cut, Failed}

-- The bytes taken are the text, of this length, or as many without it; or fewer where the source ends or
-- fails.
abbrev pub ReadsText : ℕ → Option (List ℕ) → Option (List ℕ) → List ℕ → TextEnd → Type 0
ReadsText len old new text Whole = Takes old new (λ taken. taken ≡ text) × (length text ≡ len)
    × (len ≤ MAX_TEXT)
ReadsText len old new text Dropped = Takes old new (λ taken. length taken ≡ len) × (len ≤ MAX_TEXT)
ReadsText len old new text Large = Takes old new (λ taken. length taken ≡ len) × (MAX_TEXT < len)
ReadsText len old new text Cut = Takes old new (λ taken. length taken < len) × NothingLeft new
ReadsText len old new text Failed = Takes old new (λ taken. length taken < len)

-- no byte waits where the source gave none
abbrev pub EmptiesInText : TextEnd → List ℕ → Type 0
EmptiesInText Whole pending = Unit {0}
EmptiesInText Dropped pending = Unit {0}
EmptiesInText Large pending = Unit {0}
EmptiesInText Cut pending = pending ≡ []
EmptiesInText Failed pending = pending ≡ []
