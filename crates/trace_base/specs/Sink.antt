-- What a write does to the bytes that a sink holds.
use Rattle.std.specs.Prelude.{◌≡◌, ℕ, ◌≤◌, List, ◌++◌, length, take, Option}
use Rattle.trace_base.specs.Outside.{Told}
use Rattle.trace_base.specs.declared.sink.WriteAnswer.{WriteAnswer}
use Rattle.trace_base.specs.declared.sink.WriteAnswer.TheVariants.{Took, Failed}

-- the first bytes are added at the end; a failed write adds nothing
abbrev pub Writes : Option (List ℕ) → Option (List ℕ) → List ℕ → WriteAnswer → Type 0
Writes old new bytes (Took n) = (1 ≤ n) × (n ≤ length bytes)
    × Told old new (λ was now. now ≡ was ++ take n bytes)
Writes old new bytes Failed = new ≡ old
