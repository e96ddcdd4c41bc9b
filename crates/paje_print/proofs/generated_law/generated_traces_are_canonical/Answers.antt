use Rattle.paje_print.proofs.GeneratedLimits.{generated-canonical}
use Rattle.paje_print.proofs.generated_law.generated_traces_are_canonical.Goals as goal

pub returns : goal.returns
returns c = generated-canonical
