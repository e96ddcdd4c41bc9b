use Rattle.std.proofs.Common.{◌∷◌, sym}
use Rattle.std.proofs.Common.{subst, arith}
use Rattle.registry_core.specs.Registry.{RegistryValue}
use Rattle.registry_core.specs.UsedBy.{AreUsedBy}
use Rattle.registry_core.proofs.UsedByQueries.{known-kept, used-asked, used-given_back, used-in_use}
use Rattle.registry_core.proofs.user_laws.users_of_questions.Goals as goal

pub returns-clause-none : goal.returns-clause-none
returns-clause-none c = record {
  users = λ k d lt. absurd (omega (arith, lt));
  kept = λ id named. absurd (omega (arith, named));
}

pub returns-clause-asked : goal.returns-clause-asked
returns-clause-asked c old new ids place queries sound (fits, known, is, becomes) was =
    subst (λ (r : RegistryValue). AreUsedBy r.traces (ids ∷ queries)) (sym becomes)
    (used-asked ids old.traces queries (known-kept old ids known) was)

pub returns-clause-in_use : goal.returns-clause-in_use
returns-clause-in_use c r ids queries was = used-in_use r ids queries was

pub returns-clause-given_back : goal.returns-clause-given_back
returns-clause-given_back c r ids queries sound was = used-given_back ids r.traces queries sound.rising was
