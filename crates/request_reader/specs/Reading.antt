-- What it means of the bytes that are left to read that a chunk or a byte was taken from them.
use Rattle.std.specs.Prelude.{◌≡◌, ◌≢◌, ℕ, List, [], ◌∷◌, ◌++◌, length, min, Option}
use Rattle.trace_base.specs.Outside.{Told}
use Rattle.trace_base.specs.declared.source.ReadAnswer.{ReadAnswer}
use Rattle.trace_base.specs.declared.source.ReadAnswer.TheVariants as answer
use Rattle.request_reader.specs.declared.pending.NextByte.{NextByte}
use Rattle.request_reader.specs.declared.pending.NextByte.TheVariants as byte

-- the bytes that wait now are the first that the source had left
abbrev pub Fills : Option (List ℕ) → Option (List ℕ) → List ℕ → ReadAnswer → Type 0
Fills old new pending (answer.Got n) = (pending ≢ []) × Told old new (λ was now. was ≡ pending ++ now)
Fills old new pending answer.End = (pending ≡ []) × Told old new (λ was now. (was ≡ []) × (now ≡ []))
Fills old new pending answer.Failed = (pending ≡ []) × (new ≡ old)

-- the byte was the first of what was left; at the end nothing is left; a failure leaves all
abbrev pub GivesByte : Option (List ℕ) → Option (List ℕ) → NextByte → Type 0
GivesByte old new (byte.Byte b) = Told old new (λ was now. was ≡ b ∷ now)
GivesByte old new byte.End = Told old new (λ was now. (was ≡ []) × (now ≡ []))
GivesByte old new byte.Failed = new ≡ old

-- the bytes that waited stand behind the text, or the first of them, so many
abbrev pub Moves : ℕ → List ℕ → List ℕ → List ℕ → List ℕ → Type 0
Moves most was now text longer = (taken : List ℕ) × (was ≡ taken ++ now) × (longer ≡ text ++ taken)
    × (length taken ≡ min most (length was))

-- no byte waits where the source gave none
abbrev pub LeavesNone : NextByte → List ℕ → Type 0
LeavesNone (byte.Byte b) pending = Unit {0}
LeavesNone byte.End pending = pending ≡ []
LeavesNone byte.Failed pending = pending ≡ []
