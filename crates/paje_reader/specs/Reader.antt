-- What a reader has read.
use Rattle.std.specs.Prelude.{◌≡◌, ◌⊎◌, List, [], ◌∷◌, ◌++◌, Some, None, Result, MatchResult}
use Rattle.paje_defs.specs.Lines.{definitions_of_lines}
use Rattle.paje_defs.specs.Refusals.{Placed, refusal}
use Rattle.paje_defs.specs.Table.{definitions_of}
use Rattle.paje_model.specs.StandsFor.{StandsFor}
use Rattle.paje_reader.specs.declared.line_fault.LineFault.{LineFault}
use Rattle.paje_reader.specs.declared.line_fault.LineFault.TheVariants.{Memory, Refused}
use Rattle.paje_reader.specs.declared.reader.Reader.{Reader}
use Rattle.paje_reader.specs.declared.why.Why.{Why}
use Rattle.paje_reader.specs.LineReasons.{definition_lines, event_lines, line_why}
use Rattle.paje_reader.specs.TextLines.{TextLine}

-- these lines, of which none is refused
pub record HasRead (lines : List TextLine) (r : Reader) : Type 0 where
  pub definitions : definitions_of r.definitions ≡ definitions_of_lines (definition_lines lines)
  pub undisturbed : (definitions_of r.definitions).fault ≡ None
  pub entities : StandsFor (event_lines lines) r.entities
  pub unrefused : refusal line_why lines ≡ None

-- A line behind these that isn't refused is read, and one that is refused is told with its reason. Want of
-- memory is free.
abbrev pub TakesLine : {U : Type 0} → Placed TextLine → Reader → Result U LineFault → Type 0
TakesLine p new r = MatchResult r
    (λ _. (line_why p ≡ None) × HasRead (p.before ++ p.line ∷ []) new)
    (λ fault. (fault ≡ Memory) ⊎ ((why : Why) × (fault ≡ Refused why) × (line_why p ≡ Some why)))
