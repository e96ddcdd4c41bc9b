-- What a look-up of a text of a line answers.
use Rattle.std.specs.Prelude.{◌≡◌, Option, Some, None, Result, MatchResult}
use Rattle.paje_lines.specs.declared.model_fault.ModelFault.{ModelFault}

-- what is looked up, where there is no reason against the line; else that reason
abbrev pub Finds : {X : Type 0} → Option ModelFault → (X → Type 0) → Result X ModelFault → Type 0
Finds reason P r = MatchResult r (λ x. (reason ≡ None) × P x) (λ fault. reason ≡ Some fault)
