-- The first reason of a step, and a refusal by it.
use Rattle.std.proofs.Common.{◌≡◌, List, ◌∷◌, Option, Some, None, Result, Ok, Err, IsErrAnd, sym}
use Rattle.std.proofs.Common.{ap, ◌∙◌, subst}
use Rattle.paje_defs.specs.Refusals.{first_of}
use Rattle.paje_lex.specs.declared.unread.Unread.{Unread}
use Rattle.paje_lex.specs.declared.unread.Unread.TheVariants.{Refused}
use Rattle.paje_lex.specs.Unread.{IsRefusedFor}
use Rattle.paje_lines.specs.declared.effect.Effect.{Effect}
use Rattle.paje_lines.specs.declared.model_fault.ModelFault.{ModelFault}
use Rattle.paje_model.specs.declared.known.Known.{Known}
use Rattle.paje_model.specs.Steps.{Step, Takes}

-- where the first reason is none, those behind it decide
pub passed : {F : Type 0} (reason : Option F) (reasons : List (Option F)) (first : Option F) → reason ≡ None
    → first_of reasons ≡ first → first_of (reason ∷ reasons) ≡ first
passed reason reasons first none is = ap (λ o. first_of (o ∷ reasons)) none ∙ is

pub told_first : {F : Type 0} (reason : Option F) (reasons : List (Option F)) (fault : F)
    → reason ≡ Some fault → first_of (reason ∷ reasons) ≡ Some fault
told_first reason reasons fault is = ap (λ o. first_of (o ∷ reasons)) is

pub refused-by : (step : Step) (new : Known) (r : Result Effect (Unread ModelFault)) (fault : ModelFault)
    → IsErrAnd r (λ e. e ≡ Refused fault) → step.reason ≡ Some fault → Takes step new r
refused-by step new (Ok x) fault is why = absurd is
refused-by step new (Err e) fault is why = subst (IsRefusedFor step.reason) (sym is) why
