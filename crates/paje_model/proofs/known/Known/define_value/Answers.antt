use Rattle.std.proofs.Common.{◌≡◌, ℕ, List, [], ◌∷◌, Option, None, Some, is_some, not, cond, refl, sym, ap}
use Rattle.std.proofs.Common.{subst, ◌∙◌}
use Rattle.std.proofs.Common.{ap₂, find}
use Rattle.std.specs.Option.{option_and_then}
use Rattle.paje_defs.specs.declared.role.Role.TheVariants as roles
use Rattle.paje_defs.proofs.FirstOf.{first_one}
use Rattle.paje_lines.specs.declared.effect.Effect.TheVariants.{Declared, Dropped}
use Rattle.paje_lines.specs.declared.model_fault.ModelFault.{ModelFault}
use Rattle.paje_lines.specs.Effects.{effect, effect_of}
use Rattle.paje_lines.specs.EventLine.{EventLine, line_of, text_of}
use Rattle.paje_lines.specs.Found.{has_alias}
use Rattle.paje_lines.specs.Reasons.{new_value_reason, type_reason, value_reason}
use Rattle.paje_lines.specs.Types.{is_container_type, kind_named}
use Rattle.paje_model.specs.Steps.{Step}
use Rattle.paje_model.specs.ValueTable.{values_at}
use Rattle.std.specs.Prelude.{slice_set, ◌++◌}
use Rattle.paje_model.specs.ValueTable.{values_kept}
use Rattle.paje_model.proofs.NewValues.{kinds-there, known-unvalued, known-valued, value-alias, value-room}
use Rattle.paje_model.proofs.StepReasons.{passed, refused-by, told_first}
use Rattle.paje_model.proofs.known.Known.define_value.Goals as goal

abbrev step_of : List EventLine → EventLine → Step
step_of before line = record {
  before = before;
  line = line;
  reason = value_reason before line;
  effect = effect before line;
}

abbrev by_type : List EventLine → EventLine → Option ModelFault
by_type before line = type_reason (λ sort. not (is_container_type sort)) before line roles.Kind

abbrev by_value : List EventLine → EventLine → Option ModelFault
by_value before line = option_and_then (new_value_reason before line) (kind_named before
    (text_of line roles.Kind))

-- behind the type, as the value is
behind : (before : List EventLine) (line : EventLine) (kind : Option ℕ) (first : Option ModelFault)
    → by_type before line ≡ None → kind_named before (text_of line roles.Kind) ≡ kind
    → option_and_then (new_value_reason before line) kind ≡ first → value_reason before line ≡ first
behind before line kind first none named is = passed (by_type before line) (by_value before line
    ∷ []) first none
    (first_one (by_value before line) ∙ (ap (option_and_then (new_value_reason before line)) named ∙ is))

pub returns-in_err-kind : goal.returns-in_err-kind
returns-in_err-kind c before known =
    let line = line_of c.args.n c.args.fields.now in
    refused-by (step_of before line) c.args.self.now c.from_residual.result c.in_err-kind.field-0.0
    c.from_residual.ensures.1 (told_first (by_type before line) (by_value before line ∷ [])
    c.in_err-kind.field-0.0 (c.in_err-kind.ensures c.args.n before known))

pub returns-in_default : goal.returns-in_default
returns-in_default c before known =
    let line = line_of c.args.n c.args.fields.now in
    let found = c.in_ok-kind.ensures c.args.n before known in
    let named : kind_named before (text_of line roles.Kind) ≡ None = found.1 ∙ c.in_default.is in
    let none : value_reason before line ≡ None = behind before line None None found.0 named refl in (
      none,
      sym (ap (λ e. effect_of e before line) c.requires.event
          ∙ ap (λ o. cond (is_some o) Declared Dropped) named),
      known-unvalued before line c.args.self.now known c.requires.event none named,
    )

pub returns-in_err-is_new_value : goal.returns-in_err-is_new_value
returns-in_err-is_new_value c before known =
    let line = line_of c.args.n c.args.fields.now in
    let found = c.in_ok-kind.ensures c.args.n before known in
    let fault = c.in_err-is_new_value.field-0.0 in
    refused-by (step_of before line) c.args.self.now c.from_residual-in_err-is_new_value.result fault
    c.from_residual-in_err-is_new_value.ensures.1 (behind before line (Some c.in-Some.kind)
    (Some fault) found.0
    (found.1 ∙ c.in-Some.is)
    (c.in_err-is_new_value.ensures c.args.n before known (found.1 ∙ c.in-Some.is)))

pub add-requires-clause-kind : goal.add-requires-clause-kind
add-requires-clause-kind c =
    let line = line_of c.args.n c.args.fields.now in
    let found = c.in_ok-kind.ensures c.args.n c.requires.known.0 c.requires.known.1 in
    kinds-there c.requires.known.0 c.args.self.now.values (text_of line roles.Kind) c.in-Some.kind
    c.requires.known.1.values (found.1 ∙ c.in-Some.is)

pub add-requires-clause-new : goal.add-requires-clause-new
add-requires-clause-new c =
    let line = line_of c.args.n c.args.fields.now in
    let found = c.in_ok-kind.ensures c.args.n c.requires.known.0 c.requires.known.1 in
    let named = found.1 ∙ c.in-Some.is in
    subst (λ alias. find (has_alias alias) (values_at c.args.self.now.values c.in-Some.kind) ≡ None)
    (sym (c.alias_of-alias.ensures c.args.n))
    (value-alias c.requires.known.0 line c.args.self.now c.in-Some.kind
    c.requires.known.1 named
    (c.in_ok-is_new_value.ensures c.args.n c.requires.known.0 c.requires.known.1 named).0)

pub add-requires-clause-room : goal.add-requires-clause-room
add-requires-clause-room c =
    let line = line_of c.args.n c.args.fields.now in
    let found = c.in_ok-kind.ensures c.args.n c.requires.known.0 c.requires.known.1 in
    let named = found.1 ∙ c.in-Some.is in
    (value-room c.requires.known.0 line c.args.self.now c.in-Some.kind c.requires.known.1 named
    (c.in_ok-is_new_value.ensures c.args.n c.requires.known.0 c.requires.known.1 named).0).0

pub add-requires-clause-count : goal.add-requires-clause-count
add-requires-clause-count c =
    let line = line_of c.args.n c.args.fields.now in
    let found = c.in_ok-kind.ensures c.args.n c.requires.known.0 c.requires.known.1 in
    let named = found.1 ∙ c.in-Some.is in
    (value-room c.requires.known.0 line c.args.self.now c.in-Some.kind c.requires.known.1 named
    (c.in_ok-is_new_value.ensures c.args.n c.requires.known.0 c.requires.known.1 named).0).1

pub returns : goal.returns
returns c before known =
    let line = line_of c.args.n c.args.fields.now in
    let found = c.in_ok-kind.ensures c.args.n before known in
    let named = found.1 ∙ c.in-Some.is in
    let none : value_reason before line ≡ None = behind before line (Some c.in-Some.kind) None found.0 named
    (c.in_ok-is_new_value.ensures c.args.n before known named).0 in (
      none,
      sym (ap (λ e. effect_of e before line) c.requires.event
          ∙ ap (λ o. cond (is_some o) Declared Dropped) named),
      known-valued before line c.in-Some.kind c.args.self.now c.add.new.self known c.requires.event none named
          (record {
            values = c.in_ok-add.ensures.values
                ∙ ap₂ (λ alias name. slice_set (values_kept c.args.self.now.values) c.in-Some.kind
                (values_at c.args.self.now.values c.in-Some.kind
                ++ record { alias = alias; name = name; line = c.args.n } ∷ []))
                (c.alias_of-alias.ensures c.args.n) (c.text_of.ensures c.args.n);
            named = c.in_ok-add.ensures.named;
            count = c.in_ok-add.ensures.count;
          }),
    )
