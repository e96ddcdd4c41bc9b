use Rattle.std.proofs.Common.{◌≡◌, List, [], ◌∷◌, Option, None, Some, sym, ap, subst, ◌∙◌}
use Rattle.paje_defs.specs.declared.role.Role.TheVariants as roles
use Rattle.paje_defs.specs.Refusals.{first_of}
use Rattle.paje_defs.proofs.FirstOf.{first_one}
use Rattle.paje_lines.specs.declared.effect.Effect.TheVariants.{Declared}
use Rattle.paje_lines.specs.declared.model_fault.ModelFault.{ModelFault}
use Rattle.paje_lines.specs.EventLine.{EventLine, line_of}
use Rattle.paje_lines.specs.Reasons.{define_link_reason, new_type_reason, reason_of, type_reason}
use Rattle.paje_lines.specs.Types.{is_container_type}
use Rattle.paje_model.specs.Steps.{Step, Takes}
use Rattle.paje_model.proofs.StepReasons.{passed, refused-by, told_first}
use Rattle.paje_model.proofs.known.Known.define_link.Goals as goal

-- a step for this reason
abbrev step_for : List EventLine → EventLine → Option ModelFault → Step
step_for before line reason = record { before = before; line = line; reason = reason; effect = Declared }

abbrev by_kind : List EventLine → EventLine → Option ModelFault
by_kind before line = type_reason is_container_type before line roles.Kind

abbrev by_start : List EventLine → EventLine → Option ModelFault
by_start before line = type_reason is_container_type before line roles.FromKind

abbrev by_end : List EventLine → EventLine → Option ModelFault
by_end before line = type_reason is_container_type before line roles.ToKind

-- behind the types that are found
behind : (before : List EventLine) (line : EventLine) (first : Option ModelFault)
    → by_kind before line ≡ None → by_start before line ≡ None
    → first_of (by_end before line ∷ new_type_reason before line ∷ []) ≡ first
    → define_link_reason before line ≡ first
behind before line first kind start is =
    passed (by_kind before line) (by_start before line ∷ by_end before line ∷ new_type_reason before line
    ∷ [])
    first kind (passed (by_start before line) (by_end before line ∷ new_type_reason before line
    ∷ []) first start
    is)

pub returns-in_err-container_type : goal.returns-in_err-container_type
returns-in_err-container_type c before known =
    let line = line_of c.args.n c.args.fields.now in
    refused-by (step_for before line (define_link_reason before line)) c.args.self.now c.from_residual.result
    c.in_err-container_type.field-0.0 c.from_residual.ensures.1
    (told_first (by_kind before line) (by_start before line ∷ by_end before line
    ∷ new_type_reason before line ∷ []) c.in_err-container_type.field-0.0
    (c.in_err-container_type.ensures c.args.n before known))

pub returns-in_err-container_type-2 : goal.returns-in_err-container_type-2
returns-in_err-container_type-2 c before known =
    let line = line_of c.args.n c.args.fields.now in
    let fault = c.in_err-container_type-2.field-0.0 in
    refused-by (step_for before line (define_link_reason before line)) c.args.self.now
    c.from_residual-in_err-container_type-2.result fault c.from_residual-in_err-container_type-2.ensures.1
    (passed (by_kind before line) (by_start before line ∷ by_end before line
    ∷ new_type_reason before line ∷ [])
    (Some fault) (c.in_ok-container_type.ensures c.args.n before known).0
    (told_first (by_start before line) (by_end before line ∷ new_type_reason before line ∷ []) fault
    (c.in_err-container_type-2.ensures c.args.n before known)))

pub returns-in_err-container_type-3 : goal.returns-in_err-container_type-3
returns-in_err-container_type-3 c before known =
    let line = line_of c.args.n c.args.fields.now in
    let fault = c.in_err-container_type-3.field-0.0 in
    refused-by (step_for before line (define_link_reason before line)) c.args.self.now
    c.from_residual-in_err-container_type-3.result fault c.from_residual-in_err-container_type-3.ensures.1
    (behind before line (Some fault) (c.in_ok-container_type.ensures c.args.n before known).0
    (c.in_ok-container_type-2.ensures c.args.n before known).0
    (told_first (by_end before line) (new_type_reason before line ∷ []) fault
    (c.in_err-container_type-3.ensures c.args.n before known)))

pub returns : goal.returns
returns c before known =
    let line = line_of c.args.n c.args.fields.now in
    let is : define_link_reason before line ≡ new_type_reason before line
    = behind before line (new_type_reason before line)
    (c.in_ok-container_type.ensures c.args.n before known).0
    (c.in_ok-container_type-2.ensures c.args.n before known).0
    (passed (by_end before line) (new_type_reason before line ∷ []) (new_type_reason before line)
    (c.in_ok-container_type-3.ensures c.args.n before known).0 (first_one (new_type_reason before line))) in
    subst (λ reason. Takes (step_for before line reason) c.declare_type.new.self c.declare_type.result)
    (sym is)
    (c.declare_type.ensures before known (ap (λ event. reason_of event before line) c.requires.event ∙ is))
