use Rattle.std.proofs.Common.{◌≡◌, List, [], ◌∷◌, Option, sym, subst, ◌∙◌}
use Rattle.paje_defs.specs.declared.role.Role.TheVariants as roles
use Rattle.paje_defs.proofs.FirstOf.{first_one}
use Rattle.paje_lines.specs.declared.effect.Effect.TheVariants.{Declared}
use Rattle.paje_lines.specs.declared.model_fault.ModelFault.{ModelFault}
use Rattle.paje_lines.specs.EventLine.{EventLine, line_of}
use Rattle.paje_lines.specs.Reasons.{define_reason, new_type_reason, type_reason}
use Rattle.paje_lines.specs.Types.{is_container_type}
use Rattle.paje_model.specs.Steps.{Step, Takes}
use Rattle.paje_model.proofs.NewTypes.{plain-reason}
use Rattle.paje_model.proofs.StepReasons.{passed, refused-by, told_first}
use Rattle.paje_model.proofs.known.Known.define.Goals as goal

-- a step for this reason
abbrev step_for : List EventLine → EventLine → Option ModelFault → Step
step_for before line reason = record { before = before; line = line; reason = reason; effect = Declared }

abbrev by_kind : List EventLine → EventLine → Option ModelFault
by_kind before line = type_reason is_container_type before line roles.Kind

pub returns-in_err-container_type : goal.returns-in_err-container_type
returns-in_err-container_type c before known =
    let line = line_of c.args.n c.args.fields.now in
    refused-by (step_for before line (define_reason before line)) c.args.self.now c.from_residual.result
    c.in_err-container_type.field-0.0 c.from_residual.ensures.1
    (told_first (by_kind before line) (new_type_reason before line ∷ []) c.in_err-container_type.field-0.0
    (c.in_err-container_type.ensures c.args.n before known))

pub returns : goal.returns
returns c before known =
    let line = line_of c.args.n c.args.fields.now in
    let is : define_reason before line ≡ new_type_reason before line
    = passed (by_kind before line) (new_type_reason before line ∷ []) (new_type_reason before line)
    (c.in_ok-container_type.ensures c.args.n before known).0 (first_one (new_type_reason before line)) in
    subst (λ reason. Takes (step_for before line reason) c.declare_type.new.self c.declare_type.result)
    (sym is)
    (c.declare_type.ensures before known (plain-reason before line line.event c.requires.event ∙ is))
