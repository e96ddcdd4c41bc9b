use Rattle.std.proofs.Common.{◌≡◌, ℕ, ◌∷◌, ◌++◌, [], subst, List, Option, None, Some, is_some, refl, sym, ap}
use Rattle.std.proofs.Common.{◌∙◌, length}
use Rattle.paje_defs.specs.declared.role.Role.TheVariants as roles
use Rattle.paje_lines.specs.declared.model_fault.ModelFault.{ModelFault}
use Rattle.paje_lines.specs.declared.effect.Effect.TheVariants.{Linked}
use Rattle.paje_lines.specs.declared.what.What.TheVariants as what
use Rattle.paje_lines.specs.EventLine.{EventLine, end_role, line_of, text_of}
use Rattle.paje_lines.specs.Reasons.{container_reason, full, link_reason, links_in, type_reason}
use Rattle.paje_lines.specs.Containers.{container_named}
use Rattle.paje_lines.specs.Types.{link_number}
use Rattle.paje_model.specs.declared.known.Known.{Known}
use Rattle.paje_model.specs.Known.{IsKnown}
use Rattle.paje_model.specs.Steps.{Step}
use Rattle.paje_model.proofs.LinksSoFar.{known-linked, links-counted}
use Rattle.paje_model.proofs.StepReasons.{passed, refused-by, told_first}
use Rattle.paje_model.proofs.known.Known.link_event.Goals as goal

abbrev step_of : List EventLine → EventLine → Step
step_of before line = record {
  before = before;
  line = line;
  reason = link_reason (links_in before) before line;
  effect = Linked;
}

abbrev by_type : List EventLine → EventLine → Option ModelFault
by_type before line = type_reason (λ sort. is_some (link_number sort)) before line roles.Kind

abbrev by_container : List EventLine → EventLine → Option ModelFault
by_container before line = container_reason before line (end_role line.event)

by_count : (before : List EventLine) (k : Known) (n : ℕ) → IsKnown before k → n ≡ length k.links
    → n ≡ links_in before
by_count before k n known is = is ∙ (ap length known.links ∙ links-counted before known.unrefused)

pub returns-in_err-kind : goal.returns-in_err-kind
returns-in_err-kind c before known =
    let line = line_of c.args.n c.args.fields.now in
    refused-by (step_of before line) c.args.self.now c.from_residual.result c.in_err-kind.field-0.0
    c.from_residual.ensures.1 (told_first (by_type before line) (by_container before line
    ∷ full what.LinkEvents (links_in before) ∷ []) c.in_err-kind.field-0.0
    (c.in_err-kind.ensures c.args.n before known))

pub returns-in_err-container : goal.returns-in_err-container
returns-in_err-container c before known =
    let line = line_of c.args.n c.args.fields.now in
    let fault = c.in_err-container.field-0.0 in
    refused-by (step_of before line) c.args.self.now c.from_residual-in_err-container.result fault
    c.from_residual-in_err-container.ensures.1
    (passed (by_type before line) (by_container before line ∷ full what.LinkEvents (links_in before) ∷ [])
    (Some fault) (c.in_ok-kind.ensures c.args.n before known).0
    (told_first (by_container before line) (full what.LinkEvents (links_in before) ∷ []) fault
    (subst (λ role. container_reason before line role ≡ Some fault)
    (c.end_role.ensures ∙ ap end_role c.kind.ensures)
    (c.in_err-container.ensures c.args.n before known))))

pub returns-in_err-room : goal.returns-in_err-room
returns-in_err-room c before known =
    let line = line_of c.args.n c.args.fields.now in
    let fault = c.in_err-room.field-0.0 in
    refused-by (step_of before line) c.args.self.now c.from_residual-in_err-room.result fault
    c.from_residual-in_err-room.ensures.1
    (passed (by_type before line) (by_container before line ∷ full what.LinkEvents (links_in before) ∷ [])
    (Some fault) (c.in_ok-kind.ensures c.args.n before known).0
    (passed (by_container before line) (full what.LinkEvents (links_in before) ∷ []) (Some fault)
    (subst (λ role. container_reason before line role ≡ None)
    (c.end_role.ensures ∙ ap end_role c.kind.ensures)
    (c.in_ok-container.ensures c.args.n before known).0)
    (told_first (full what.LinkEvents (links_in before)) [] fault
    (ap (full what.LinkEvents) (sym (by_count before c.args.self.now c.len.result known c.len.ensures))
    ∙ c.in_err-room.ensures))))

pub returns : goal.returns
returns c before known =
    let line = line_of c.args.n c.args.fields.now in
    let found = subst (λ role. (container_reason before line role ≡ None)
    × (container_named before (text_of line role) ≡ Some c.in_ok-container.container))
    (c.end_role.ensures ∙ ap end_role c.kind.ensures) (c.in_ok-container.ensures c.args.n before known) in
    let reason : link_reason (links_in before) before line ≡ None
    = passed (by_type before line) (by_container before line ∷ full what.LinkEvents (links_in before) ∷ [])
    None (c.in_ok-kind.ensures c.args.n before known).0
    (passed (by_container before line) (full what.LinkEvents (links_in before) ∷ []) None found.0
    (passed (full what.LinkEvents (links_in before)) [] None
    (ap (full what.LinkEvents) (sym (by_count before c.args.self.now c.len.result known c.len.ensures))
    ∙ c.in_ok-room.ensures.0) refl)) in (
      reason,
      refl,
      known-linked before line c.in_ok-kind.kind c.in_ok-container.container c.args.self.now
          c.push.new.self known (record {
            event = c.requires.event;
            kind_named = (c.in_ok-kind.ensures c.args.n before known).1;
            container_named = found.1;
            reason = reason;
          }) (c.in_ok-push.ensures.ok ∙ ap (λ link. c.args.self.now.links ++ link ∷ [])
          (c.in_ok-link_told.ensures c.args.n)),
    )
