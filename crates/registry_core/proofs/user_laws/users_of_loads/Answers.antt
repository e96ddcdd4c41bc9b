use Rattle.std.proofs.Common.{refl, sym, subst, arith}
use Rattle.list_lemmas.proofs.All.{All-found}
use Rattle.registry_core.specs.Registry.{RegistryValue, has_id}
use Rattle.registry_core.specs.Trace.{just_opened, kept_for_users, loaded, with_root}
use Rattle.registry_core.specs.UsedBy.{AreUsedBy}
use Rattle.registry_core.specs.declared.answers.RegEnd.TheVariants.{Ended, Kept}
use Rattle.registry_core.proofs.LawTraces.{kept_above}
use Rattle.registry_core.proofs.UsedByQueries.{HasUsers, used-changed, used-opened, used-without}
use Rattle.registry_core.proofs.user_laws.users_of_loads.Goals as goal

pub returns-clause-opened : goal.returns-clause-opened
returns-clause-opened c r info queries sound was =
    used-opened r.traces (just_opened r.next_id info) queries refl
    (kept_above r.traces r.next_id r.next_id sound.given (omega arith)) was

pub returns-clause-published : goal.returns-clause-published
returns-clause-published c r id track start root queries was =
    used-changed id (with_root track _) r.traces queries (λ t. refl) (λ t. refl) was

pub returns-clause-sealed : goal.returns-clause-sealed
returns-clause-sealed c r id queries was =
    used-changed id loaded r.traces queries (λ t. refl) (λ t. refl) was

pub returns-clause-ended : goal.returns-clause-ended
returns-clause-ended c old new id (Ended place roots) queries (t, kept, unused, is, are, becomes) was =
    subst (λ (r : RegistryValue). AreUsedBy r.traces queries) (sym becomes)
    (used-without old.traces t queries
    (All-found (HasUsers queries) (has_id id) old.traces t was.users kept) unused was)
returns-clause-ended c old new id (Kept place) queries (t, kept, used, is, becomes) was =
    subst (λ (r : RegistryValue). AreUsedBy r.traces queries) (sym becomes)
    (used-changed t.id kept_for_users old.traces queries (λ u. refl) (λ u. refl) was)
