use Rattle.std.proofs.Common.{refl}
use Rattle.registry_core.specs.Asking.{times_asked}
use Rattle.registry_core.specs.Trace.{used_more}
use Rattle.registry_core.proofs.RootsGivenBack.{roots-given_back}
use Rattle.registry_core.proofs.RootsKept.{roots-same}
use Rattle.registry_core.proofs.root_laws.roots_of_questions.Goals as goal

pub returns-clause-asked : goal.returns-clause-asked
returns-clause-asked c ids traces = roots-same (λ t. used_more (times_asked ids t.id) t) (λ t. refl) traces

pub returns-clause-given_back : goal.returns-clause-given_back
returns-clause-given_back c r ids sound = roots-given_back r ids sound
