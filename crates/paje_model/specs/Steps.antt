-- What one more line does to what is known of the lines before it.
use Rattle.std.specs.Prelude.{◌≡◌, List, [], ◌∷◌, ◌++◌, Option, None, Result, MatchResult}
use Rattle.paje_lex.specs.declared.unread.Unread.{Unread}
use Rattle.paje_lex.specs.Unread.{IsRefusedFor}
use Rattle.paje_lines.specs.declared.effect.Effect.{Effect}
use Rattle.paje_lines.specs.declared.model_fault.ModelFault.{ModelFault}
use Rattle.paje_lines.specs.EventLine.{EventLine}
use Rattle.paje_model.specs.declared.known.Known.{Known}
use Rattle.paje_model.specs.Known.{IsKnown}

-- a line, with the lines before it, the reason against it, and what it does where there is none
pub record Step : Type 0 where
  pub before : List EventLine
  pub line : EventLine
  pub reason : Option ModelFault
  pub effect : Effect

-- Where there is no reason against the line, it does this, and it is known with those before it. Want of
-- memory is free.
abbrev pub Takes : Step → Known → Result Effect (Unread ModelFault) → Type 0
Takes step new r = MatchResult r
    (λ done. (step.reason ≡ None) × (done ≡ step.effect) × IsKnown (step.before ++ step.line ∷ []) new)
    (IsRefusedFor step.reason)
