use Rattle.std.proofs.Common.{◌≡◌, List, Some, refl, sym, subst, ◌∙◌}
use Rattle.paje_lines.specs.declared.effect.Effect.TheVariants.{Declared}
use Rattle.paje_lines.specs.EventLine.{EventLine, line_of}
use Rattle.paje_lines.specs.Reasons.{new_type_reason}
use Rattle.paje_lines.specs.Types.{sort_of}
use Rattle.paje_model.specs.Steps.{Step}
use Rattle.paje_model.proofs.NewTypes.{known-typed, new-alias, new-room}
use Rattle.paje_model.proofs.StepReasons.{refused-by}
use Rattle.paje_model.proofs.known.Known.declare_type.Goals as goal

abbrev step_of : List EventLine → EventLine → Step
step_of before line = record {
  before = before;
  line = line;
  reason = new_type_reason before line;
  effect = Declared;
}

pub returns-in_err-is_new_type : goal.returns-in_err-is_new_type
returns-in_err-is_new_type c before known is =
    refused-by (step_of before (line_of c.args.n c.args.fields.now)) c.args.self.now c.from_residual.result
    c.in_err-is_new_type.field-0.0 c.from_residual.ensures.1
    (c.in_err-is_new_type.ensures c.args.n before known)

pub add_type-requires-clause-new : goal.add_type-requires-clause-new
add_type-requires-clause-new c = new-alias c.requires.known.0 (line_of c.args.n c.args.fields.now)
    c.args.self.now c.requires.known.1
    (c.in_ok-is_new_type.ensures c.args.n c.requires.known.0 c.requires.known.1).0

pub add_type-requires-clause-room : goal.add_type-requires-clause-room
add_type-requires-clause-room c = new-room c.requires.known.0 (line_of c.args.n c.args.fields.now)
    c.args.self.now c.requires.known.1
    (c.in_ok-is_new_type.ensures c.args.n c.requires.known.0 c.requires.known.1).0

pub returns : goal.returns
returns c before known is =
    let line = line_of c.args.n c.args.fields.now in
    let none = (c.in_ok-is_new_type.ensures c.args.n before known).0 in
    let sort : sort_of before line.event ≡ Some c.unwrap-sort.result
    = subst (λ event. sort_of before event ≡ Some c.unwrap-sort.result) c.kind.ensures
    (sym (c.declared_sort.ensures before known) ∙ c.unwrap-sort.ensures) in (
      none,
      refl,
      known-typed before line c.unwrap-sort.result c.args.self.now c.add_type.new.self known sort
          (is ∙ none) c.in_ok-add_type.ensures,
    )
