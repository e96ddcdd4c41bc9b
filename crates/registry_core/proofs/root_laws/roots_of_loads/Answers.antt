use Rattle.std.proofs.Common.{[], refl, sym, ap, ◌∙◌, subst}
use Rattle.registry_core.specs.Loading.{with_ended}
use Rattle.registry_core.specs.Registry.{RegistryValue}
use Rattle.registry_core.specs.Roots.{ExchangesRoots, roots_kept}
use Rattle.registry_core.specs.Trace.{kept_for_users, loaded}
use Rattle.registry_core.proofs.KeptTraces.{kept_own}
use Rattle.registry_core.proofs.RootsKept.{roots-changed, roots-opened, roots-published, roots-without}
use Rattle.registry_core.proofs.root_laws.roots_of_loads.Goals as goal

pub returns-clause-opened : goal.returns-clause-opened
returns-clause-opened c r info = roots-opened r info

pub returns-clause-published : goal.returns-clause-published
returns-clause-published c r id track start root sound (t, kept, loading, free) =
    roots-published r.traces id track t _ sound.rising kept free

pub returns-clause-sealed : goal.returns-clause-sealed
returns-clause-sealed c r id = roots-changed id loaded (λ t. refl) r.traces

pub returns-clause-ended : goal.returns-clause-ended
returns-clause-ended c old new id place roots sound (t, kept, unused, is, are, becomes) =
    subst (λ (r : RegistryValue). ExchangesRoots (roots_kept old.traces) (roots_kept r.traces) roots [])
    (sym becomes) (subst (λ rs. ExchangesRoots (roots_kept old.traces)
    (roots_kept (with_ended old t).traces) rs []) (sym are)
    (roots-without old.traces t.id t sound.rising (kept_own old.traces id t kept)))

pub returns-clause-kept : goal.returns-clause-kept
returns-clause-kept c old new id place (t, kept, used, is, becomes) =
    ap (λ (r : RegistryValue). roots_kept r.traces) becomes
    ∙ roots-changed t.id kept_for_users (λ u. refl) old.traces
