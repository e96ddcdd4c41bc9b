use Rattle.std.proofs.Common.{◌≡◌, not, subst}
use Rattle.std.specs.Option.{option_and_then, option_map}
use Rattle.paje_defs.specs.declared.role.Role.TheVariants as roles
use Rattle.paje_lines.specs.EventLine.{line_of, text_of}
use Rattle.paje_lines.specs.Reasons.{sort_reason}
use Rattle.paje_lines.specs.Types.{is_container_type, type_named, state_number}
use Rattle.paje_model.specs.Finds.{Finds}
use Rattle.paje_model.proofs.FoundSorts.{number-found}
use Rattle.paje_model.proofs.known.Known.value_type.Goals as goal

pub returns : goal.returns
returns c n before known =
    let found = type_named before (text_of (line_of n c.args.fields.now) roles.Kind) in
    let sort = option_map (λ t. t.sort) found in
    subst (λ number. Finds (sort_reason (λ sort. not (is_container_type sort)) roles.Kind sort)
    (λ kind. number ≡ kind) c.no_containers.result) (number-found state_number found)
    (subst (λ sort. Finds (sort_reason (λ sort. not (is_container_type sort)) roles.Kind sort)
    (λ kind. option_and_then state_number sort ≡ kind) c.no_containers.result)
    (c.sort.ensures n before known) c.no_containers.ensures)
