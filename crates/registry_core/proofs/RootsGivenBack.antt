-- Traces that are given back take the roots along that come free.
use Rattle.registry_core.specs.Registry.{IsSoundRegistry, RegistryValue}
use Rattle.std.proofs.Common.{◌≡◌, ◌==◌, if◌then◌else◌, List, [], None, refl, ap, arith}
use Rattle.std.specs.Prelude.{unwrap_or}
use Rattle.hall_history.specs.declared.asks.AskIds.{AskIds}
use Rattle.hall_history.specs.declared.asks.AskIds.TheVariants.{One, Two}
use Rattle.registry_core.specs.Asking.{after_unpin, times_asked, unpinned, without_users}
use Rattle.registry_core.specs.Roots.{ExchangesRoots, roots_freed_by, roots_kept, times_root}
use Rattle.registry_core.specs.Trace.{Trace, used_less}
use Rattle.registry_core.proofs.FilteredLists.{rising-filter}
use Rattle.registry_core.proofs.KeptTraces.{IsRising, IsRising-map}
use Rattle.registry_core.proofs.RootsKept.{freed_of, rest_of, roots-over, roots-same, times_root-append}
use Rattle.registry_core.proofs.Users.{kept_but_one, kept_but_two, second_freed}

-- fewer users leave the roots, and the ids rising
lowered_roots : (ids : AskIds) (traces : List Trace)
    → roots_kept (without_users ids traces) ≡ roots_kept traces
lowered_roots ids traces = roots-same (λ t. used_less (times_asked ids t.id) t) (λ t. refl) traces

lowered_rising : (ids : AskIds) (traces : List Trace) → IsRising traces → IsRising (without_users ids traces)
lowered_rising ids traces up = IsRising-map (λ t. used_less (times_asked ids t.id) t) traces (λ t. refl) up

pub roots-given_back : (r : RegistryValue) (ids : AskIds) → IsSoundRegistry r
    → ExchangesRoots (roots_kept r.traces) (roots_kept (after_unpin r ids).traces)
    (roots_freed_by (unpinned ids r.traces)) []
roots-given_back r (One a) sound n =
    let lowered = without_users (One a) r.traces in omega (
      arith,
      roots-over a lowered (lowered_rising (One a) r.traces sound.rising) n,
      ap (λ ts. times_root n (roots_kept ts)) (kept_but_one r.place a r.traces sound.each),
      ap (times_root n) (lowered_roots (One a) r.traces),
      times_root-append n (unwrap_or (freed_of a lowered) []) [],
    )
roots-given_back r (Two a b) sound n =
    let lowered = without_users (Two a b) r.traces in
    let up = lowered_rising (Two a b) r.traces sound.rising in
    omega (
      arith,
      roots-over a lowered up n,
      roots-over b (rest_of a lowered) (rising-filter (λ (t : Trace). t.id) _ lowered up) n,
      ap (λ o. times_root n (unwrap_or o [])) (second_freed a b lowered),
      ap (λ ts. times_root n (roots_kept ts)) (kept_but_two r.place a b r.traces sound.each),
      ap (times_root n) (lowered_roots (Two a b) r.traces),
      times_root-append n (unwrap_or (freed_of a lowered) [])
          (unwrap_or (if a == b then None else freed_of b lowered) []),
    )
