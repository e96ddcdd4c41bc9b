-- What a read does to the bytes that are left in a source.
use Rattle.std.specs.Prelude.{◌≡◌, ℕ, ◌≤◌, List, [], ◌++◌, length, take, Option}
use Rattle.trace_base.specs.Outside.{Told}
use Rattle.trace_base.specs.declared.source.ReadAnswer.{ReadAnswer}
use Rattle.trace_base.specs.declared.source.ReadAnswer.TheVariants.{Got, End, Failed}

-- the bytes in front are those that were left first; at the end nothing is left; a failed read leaves all
abbrev pub Reads : Option (List ℕ) → Option (List ℕ) → List ℕ → ReadAnswer → Type 0
Reads old new into (Got n) = (1 ≤ n) × (n ≤ length into) × Told old new (λ was now. was ≡ take n into ++ now)
Reads old new into End = Told old new (λ was now. (was ≡ []) × (now ≡ []))
Reads old new into Failed = new ≡ old
