use Rattle.std.proofs.Common.{[], None, refl, ap, sym, ◌∙◌}
use Rattle.paje_lines.specs.EventLine.{line_of}
use Rattle.paje_lines.specs.Found.{rooted}
use Rattle.paje_model.proofs.KnownContainers.{known_created}
use Rattle.paje_model.proofs.NewContainers.{reason_for}
use Rattle.paje_model.proofs.StepReasons.{passed, refused-by, told_first}
use Rattle.paje_model.proofs.known.Known.create.Goals as goal

pub returns-in_err-container_type : goal.returns-in_err-container_type
returns-in_err-container_type c before known =
    refused-by _ _ c.from_residual.result _ c.from_residual.ensures.1
    (told_first _ _ _ (c.in_err-container_type.ensures c.args.n before known))

pub returns-in_err-container : goal.returns-in_err-container
returns-in_err-container c before known =
    refused-by _ _ c.from_residual-in_err-container.result _ c.from_residual-in_err-container.ensures.1
    (passed _ _ _ (c.in_ok-container_type.ensures c.args.n before known).0
    (told_first _ _ _ (c.in_err-container.ensures c.args.n before known)))

pub returns-in_err-may_create : goal.returns-in_err-may_create
returns-in_err-may_create c before known =
    refused-by _ _ c.from_residual-in_err-may_create.result _ c.from_residual-in_err-may_create.ensures.1
    (passed _ _ _ (c.in_ok-container_type.ensures c.args.n before known).0
    (passed _ _ _ (c.in_ok-container.ensures c.args.n before known).0
    (told_first _ _ _ (ap (λ alias. reason_for before (rooted alias))
    (sym (c.alias_of-alias.ensures c.args.n))
    ∙ c.in_err-may_create.ensures before known))))

pub returns : goal.returns
returns c before known =
    let none = passed _ _ _ (c.in_ok-container_type.ensures c.args.n before known).0
    (passed _ _ _ (c.in_ok-container.ensures c.args.n before known).0
    (passed _ [] None (ap (λ alias. reason_for before (rooted alias))
    (sym (c.alias_of-alias.ensures c.args.n)) ∙ (c.in_ok-may_create.ensures before known).0) refl)) in (
      none,
      refl,
      known_created before (line_of c.args.n c.args.fields.now) c.args.self.now c.add.new.self
          c.alias_of-alias.result.now c.text_of-name.result.now c.time.result known c.requires.event none
          (c.alias_of-alias.ensures c.args.n) (c.text_of-name.ensures c.args.n) c.time.ensures
          c.in_ok-add.ensures,
    )
