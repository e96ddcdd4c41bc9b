use Rattle.std.proofs.Common.{refl, sym, subst, ◌&&◌}
use Rattle.list_lemmas.proofs.All.{All-found}
use Rattle.registry_core.specs.Registry.{RegistryValue, has_id, is_open_trace}
use Rattle.registry_core.specs.Trace.{kept_for_users}
use Rattle.registry_core.specs.UsedBy.{AreUsedBy}
use Rattle.registry_core.proofs.UsedByQueries.{HasUsers, used-changed, used-without}
use Rattle.registry_core.proofs.user_laws.users_of_closed.Goals as goal

pub returns-clause-ended : goal.returns-clause-ended
returns-clause-ended c old new id place roots queries (fits, t, sealed, unused, is, are, becomes) was =
    subst (λ (r : RegistryValue). AreUsedBy r.traces queries) (sym becomes)
    (used-without old.traces t queries (All-found (HasUsers queries) (λ u. has_id id u && is_open_trace u)
    old.traces t was.users sealed.is_open) unused was)

pub returns-clause-kept : goal.returns-clause-kept
returns-clause-kept c old new id place queries (fits, t, sealed, used, is, becomes) was =
    subst (λ (r : RegistryValue). AreUsedBy r.traces queries) (sym becomes)
    (used-changed t.id kept_for_users old.traces queries (λ u. refl) (λ u. refl) was)
