-- What the entities of a trace stand for: the lines that they were told.
use Rattle.std.specs.Prelude.{◌≡◌, List, [], ◌∷◌, ◌++◌, Some, None, Result, MatchResult}
use Rattle.paje_lex.specs.declared.unread.Unread.{Unread}
use Rattle.paje_lex.specs.Unread.{IsRefusedFor}
use Rattle.paje_lines.specs.declared.effect.Effect.{Effect}
use Rattle.paje_lines.specs.declared.model_fault.ModelFault.{ModelFault}
use Rattle.paje_lines.specs.Containers.{greatest}
use Rattle.paje_lines.specs.Effects.{effect}
use Rattle.paje_lines.specs.EventLine.{EventLine}
use Rattle.paje_lines.specs.Reasons.{event_reason}
use Rattle.paje_model.specs.declared.entities.Entities.{Entities}
use Rattle.paje_model.specs.Known.{IsKnown}

-- none of the lines is refused
pub record StandsFor (lines : List EventLine) (e : Entities) : Type 0 where
  pub known : IsKnown lines e.known
  pub greatest : e.greatest ≡ greatest lines
  pub fault : e.fault ≡ None

-- They stand for lines, or a line was refused. So they are but where memory ran out.
abbrev pub IsOpen : Entities → Type 0
IsOpen e = e.fault ≡ None → (lines : List EventLine) × StandsFor lines e

-- A line behind these that isn't refused has its effect, and they stand for one line more; one that is
-- refused is told with its reason, which stays. Want of memory is free.
abbrev pub Applies : List EventLine → EventLine → Entities → Result Effect (Unread ModelFault) → Type 0
Applies before line new r = MatchResult r
    (λ done. (event_reason before line ≡ None) × (done ≡ effect before line)
    × StandsFor (before ++ line ∷ []) new)
    (λ unread. IsRefusedFor (event_reason before line) unread × (new.fault ≡ Some unread))
