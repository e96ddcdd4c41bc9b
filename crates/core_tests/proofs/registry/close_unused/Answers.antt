use Rattle.std.proofs.Common.{subst, sym}
use Rattle.registry_core.specs.Examples.{HasLesserIds}
use Rattle.core_tests.proofs.Samples.{lesser-ended}
use Rattle.core_tests.proofs.registry.close_unused.Goals as goal

pub returns : goal.returns
returns g c =
    let ended = c.in-Ended.ensures in
    subst HasLesserIds (sym ended.6) (lesser-ended c.args.registry.now ended.1 c.requires)
