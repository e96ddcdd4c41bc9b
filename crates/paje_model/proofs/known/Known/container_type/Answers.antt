use Rattle.std.proofs.Common.{subst}
use Rattle.paje_lines.specs.Reasons.{sort_reason}
use Rattle.paje_lines.specs.Types.{is_container_type}
use Rattle.paje_model.specs.Finds.{Finds}
use Rattle.paje_model.proofs.known.Known.container_type.Goals as goal

pub returns : goal.returns
returns c n before known = subst (λ sort. Finds (sort_reason is_container_type c.args.role sort)
    (λ _. Unit {0}) c.only_containers.result) (c.sort.ensures n before known) c.only_containers.ensures
