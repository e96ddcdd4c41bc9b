use Rattle.std.proofs.Common.{◌≡◌, Some, is_some, subst}
use Rattle.std.specs.Option.{option_and_then, option_map}
use Rattle.paje_defs.specs.declared.role.Role.TheVariants as roles
use Rattle.paje_lines.specs.EventLine.{line_of, text_of}
use Rattle.paje_lines.specs.Reasons.{sort_reason}
use Rattle.paje_lines.specs.Types.{type_named, state_number}
use Rattle.paje_model.specs.Finds.{Finds}
use Rattle.paje_model.proofs.FoundSorts.{number-found}
use Rattle.paje_model.proofs.known.Known.state_type.Goals as goal

pub returns : goal.returns
returns c n before known =
    let found = type_named before (text_of (line_of n c.args.fields.now) roles.Kind) in
    let sort = option_map (λ t. t.sort) found in
    subst (λ number. Finds (sort_reason (λ sort. is_some (state_number sort)) roles.Kind sort)
    (λ kind. number ≡ Some kind) c.only_states.result) (number-found state_number found)
    (subst (λ sort. Finds (sort_reason (λ sort. is_some (state_number sort)) roles.Kind sort)
    (λ kind. option_and_then state_number sort ≡ Some kind) c.only_states.result)
    (c.sort.ensures n before known) c.only_states.ensures)
