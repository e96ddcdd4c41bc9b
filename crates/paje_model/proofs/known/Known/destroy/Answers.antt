use Rattle.std.proofs.Common.{[], None, refl, ◌∙◌}
use Rattle.paje_defs.specs.declared.role.Role.TheVariants as roles
use Rattle.paje_lines.specs.EventLine.{line_of, text_of}
use Rattle.paje_model.proofs.Destroying.{few_there, is_there, known_destroyed, leaves, open_there, reason_is}
use Rattle.paje_model.proofs.StepReasons.{passed, refused-by, told_first}
use Rattle.paje_model.proofs.known.Known.destroy.Goals as goal

pub at-existing-requires : goal.at-existing-requires
at-existing-requires c =
    is_there c.requires.known.0 c.args.self.now.containers
    (text_of (line_of c.args.n c.args.fields.now) roles.Name) c.in_ok-place.place
    c.requires.known.1.containers
    (c.in_ok-place.ensures c.args.n c.requires.known.0 c.requires.known.1).1

pub open_calls-left-requires : goal.open_calls-left-requires
open_calls-left-requires c = few_there c.args.self.now c.in_ok-place.place c.at-existing.result.now
    c.as_slice.result.now c.requires.known c.at-existing.ensures c.as_slice.ensures

pub destroy-requires : goal.destroy-requires
destroy-requires c =
    is_there c.requires.known.0 c.args.self.now.containers
    (text_of (line_of c.args.n c.args.fields.now) roles.Name) c.in_ok-place.place
    c.requires.known.1.containers
    (c.in_ok-place.ensures c.args.n c.requires.known.0 c.requires.known.1).1

pub returns-in_err-place : goal.returns-in_err-place
returns-in_err-place c before known =
    refused-by _ _ c.from_residual.result _ c.from_residual.ensures.1
    (told_first _ _ _ (c.in_err-place.ensures c.args.n before known))

pub returns-in_err-may_end : goal.returns-in_err-may_end
returns-in_err-may_end c before known =
    let found = c.in_ok-place.ensures c.args.n before known in
    refused-by _ _ c.from_residual-in_err-may_end.result _ c.from_residual-in_err-may_end.ensures.1
    (passed _ _ _ found.0 (told_first _ _ _ (reason_is before (line_of c.args.n c.args.fields.now)
    c.args.self.now.containers c.in_ok-place.place c.at-existing.result.now c.time.result _ known.containers
    c.at-existing.ensures c.time.ensures found.1 c.in_err-may_end.ensures)))

pub returns : goal.returns
returns c before known =
    let line = line_of c.args.n c.args.fields.now in
    let place = c.in_ok-place.place in
    let e = c.at-existing.result.now in
    let found = c.in_ok-place.ensures c.args.n before known in
    let none = passed _ _ _ found.0 (passed _ [] None (reason_is before line
    c.args.self.now.containers place e c.time.result None known.containers c.at-existing.ensures
    c.time.ensures
    found.1 c.in_ok-may_end.ensures.0) refl) in (
      none,
      leaves before line place c.open_calls-left.result c.requires.event found.1
          (c.open_calls-left.ensures ∙ open_there before c.args.self.now place e c.as_slice.result.now known
          c.at-existing.ensures c.as_slice.ensures),
      known_destroyed before line c.args.self.now c.destroy.new.self place e c.time.result c.time-2.result
          known
          c.requires.event none found.1 c.at-existing.ensures c.in_ok-may_end.ensures.0 c.time.ensures
          c.time-2.ensures c.destroy.ensures,
    )
