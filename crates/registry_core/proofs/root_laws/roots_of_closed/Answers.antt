use Rattle.std.proofs.Common.{[], refl, sym, ap, ◌∙◌, subst}
use Rattle.registry_core.specs.Loading.{with_ended}
use Rattle.registry_core.specs.Registry.{RegistryValue}
use Rattle.registry_core.specs.Roots.{ExchangesRoots, roots_kept}
use Rattle.registry_core.specs.Trace.{kept_for_users}
use Rattle.registry_core.proofs.KeptTraces.{kept_own, open_kept}
use Rattle.registry_core.proofs.RootsKept.{roots-changed, roots-without}
use Rattle.registry_core.proofs.root_laws.roots_of_closed.Goals as goal

pub returns-clause-ended : goal.returns-clause-ended
returns-clause-ended c old new id place roots sound (fits, t, sealed, unused, is, are, becomes) =
    let kept = (open_kept old.traces id t sound.rising sealed.is_open).0 in
    subst (λ (r : RegistryValue). ExchangesRoots (roots_kept old.traces) (roots_kept r.traces) roots [])
    (sym becomes) (subst (λ rs. ExchangesRoots (roots_kept old.traces)
    (roots_kept (with_ended old t).traces) rs []) (sym are)
    (roots-without old.traces t.id t sound.rising (kept_own old.traces id t kept)))

pub returns-clause-kept : goal.returns-clause-kept
returns-clause-kept c old new id place (fits, t, sealed, used, is, becomes) =
    ap (λ (r : RegistryValue). roots_kept r.traces) becomes
    ∙ roots-changed t.id kept_for_users (λ u. refl) old.traces
