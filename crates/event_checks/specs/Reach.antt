-- What a test of what a seat reaches needs, and its parts.
use Rattle.std.specs.Prelude.{◌≡◌, ℕ, All, IsSome, List, Some}
use Rattle.std.specs.List.{Contains}
use Rattle.hall_history.specs.declared.published.Published.TheVariants.{Root}
use Rattle.hall_history.specs.declared.seat.PinView.{PinView}
use Rattle.hall_world.specs.Steps.{SeesRoot}
use Rattle.node_key.specs.Leads.{Leads}
use Rattle.node_key.specs.declared.stake.Stake.{Stake}
use Rattle.registry_core.specs.Asking.{AreKeptTraces}
use Rattle.registry_core.specs.Registry.{RegistryValue, kept_trace}
use Rattle.registry_core.specs.Roots.{roots_kept}
use Rattle.registry_core.specs.Trace.{Trace, published_by}
use Rattle.store_laws.specs.Store.{Store, key_in, node_in}

-- ---- what is stored

-- there is a node on each stake
abbrev pub StoresStakes : Store → List Stake → Type 0
StoresStakes rooms stakes = All (λ (x : Stake). IsSome (node_in rooms x.number)) stakes

-- there is a node for each root that the registry keeps
abbrev pub StoresRoots : Store → RegistryValue → Type 0
StoresRoots rooms registry = All (λ root. IsSome (node_in rooms root)) (roots_kept registry.traces)

-- the registry keeps the traces of each pin
abbrev pub KeepsPins : RegistryValue → List PinView → Type 0
KeepsPins registry pins = All (λ (p : PinView). AreKeptTraces registry p.ids) pins

-- ---- what leads to a number

-- one of the stakes does
abbrev pub StakesLead : Store → List Stake → ℕ → Type 0
StakesLead rooms stakes target =
    (x : Stake) × Contains stakes x × Leads (key_in rooms) x.number target

-- the root does that was published of a track of a kept trace by a place
abbrev pub TrackLeads : Store → RegistryValue → (id place track target : ℕ) → Type 0
TrackLeads rooms registry id place track target = (t : Trace) × (kept_trace registry.traces id ≡ Some t)
    × (start : ℕ) × (root : ℕ) × (published_by t place track ≡ Root start root)
    × Leads (key_in rooms) root target

-- one of its tracks does
abbrev pub TraceLeads : Store → RegistryValue → (id place target : ℕ) → Type 0
TraceLeads rooms registry id place target = (track : ℕ) × TrackLeads rooms registry id place track target

-- a root that the pin sees does
abbrev pub PinLeads : Store → RegistryValue → PinView → ℕ → Type 0
PinLeads rooms registry p target =
    (root : ℕ) × SeesRoot registry p root × Leads (key_in rooms) root target

-- a root that one of the pins sees does
abbrev pub PinsLead : Store → RegistryValue → List PinView → ℕ → Type 0
PinsLead rooms registry pins target = (p : PinView) × Contains pins p × PinLeads rooms registry p target
