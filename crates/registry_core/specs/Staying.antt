-- What a registry keeps of what it told to a query.
use Rattle.std.specs.Prelude.{◌≡◌, ℕ, All, Some}
use Rattle.hall_history.specs.declared.asks.AskIds.{AskIds}
use Rattle.hall_history.specs.declared.published.Published.TheVariants.{Root}
use Rattle.registry_core.specs.Asking.{asked_ids}
use Rattle.registry_core.specs.Registry.{RegistryValue, kept_trace}
use Rattle.registry_core.specs.Trace.{Trace, published_by}

-- each root that the first trace tells as of the place, of whichever track, is told by the other
abbrev pub TellsRootsOf : ℕ → Trace → Trace → Type 0
TellsRootsOf place t u = (track start root : ℕ) → published_by t place track ≡ Root start root
    → published_by u place track ≡ Root start root

-- Of each trace that is asked for, the new registry keeps one that tells the roots that the old one's told as
-- of the place. Where the old registry keeps none, nothing is said.
abbrev pub KeepsTold : RegistryValue → RegistryValue → AskIds → ℕ → Type 0
KeepsTold old new ids place = All (λ id. (t : Trace) → kept_trace old.traces id ≡ Some t
    → (u : Trace) × (kept_trace new.traces id ≡ Some u) × TellsRootsOf place t u) (asked_ids ids)
