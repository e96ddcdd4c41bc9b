-- A registry stands for a history in at most one way, so that a ghost field can keep that it does.
use Rattle.std.specs.Prelude.{◌≡◌, ◌≤◌, ◌-◌, ℕ, List, Option, None, Some}
use Rattle.std.proofs.Common.{sym, ◌∙◌}
use Rattle.std.proofs.Props.{props}
use Rattle.std.proofs.lemmas.Option.{same_Some}
use mathlib.Core.HLevel.{is_prop→PathP}
use Rattle.hall_history.specs.History.{Entry, PublishedTree}
use Rattle.hall_history.specs.declared.asks.AskIds.{AskIds}
use Rattle.hall_trait.proofs.HistoryProps.{PublishedTree-set, TraceInfo-set}
use Rattle.node_key.specs.Stands.{KeyAt}
use Rattle.registry_core.specs.Registry.{IsSoundRegistry, RegistryValue}
use Rattle.registry_core.specs.Standing.{AreTrees, IsPublishedBy, IsUntold, KeepsTrace, KeepsTrack}
use Rattle.registry_core.specs.Standing.{StandsFor, Start}
use Rattle.registry_core.specs.Trace.{Trace}
use Rattle.registry_core.specs.UsedBy.{AreUsedBy}
use Rattle.registry_core.specs.declared.track_root.TrackRoot.{TrackRoot}
use Rattle.plain_hall.specs.StoreProps.{Stands-prop}

AreTrees-prop : (key_at : KeyAt) (start root : ℕ) (p : PublishedTree) → IsProp (AreTrees key_at start root p)
AreTrees-prop key_at start root p = hlevel (props, Stands-prop)

IsPublishedBy-prop : (entries : List Entry) (id track n : ℕ) (p : PublishedTree)
    → IsProp (IsPublishedBy entries id track n p)
IsPublishedBy-prop entries id track n p = hlevel (props, PublishedTree-set)

KeepsTrack-prop : (key_at : KeyAt) (start : Start) (entries : List Entry) (id track : ℕ)
    (slot : Option TrackRoot) → IsProp (KeepsTrack (AreTrees key_at) start entries id track slot)
KeepsTrack-prop key_at start entries id track None = hlevel (props, PublishedTree-set)
KeepsTrack-prop key_at start entries id track (Some r) = λ u v.
    let same : u.0 ≡ v.0 = same_Some u.0 v.0 (sym u.3.from ∙ v.3.from) in
    λ i. (
      same i,
      is_prop→PathP (λ i. AreTrees key_at r.start r.root (same i))
          (λ i. AreTrees-prop key_at r.start r.root (same i)) u.1 v.1 i,
      is_prop→PathP (λ i. start.place ≤ r.place) (λ i. hlevel props) u.2 v.2 i,
      is_prop→PathP (λ i. IsPublishedBy entries id track (r.place - start.place) (same i))
          (λ i. IsPublishedBy-prop entries id track (r.place - start.place) (same i)) u.3 v.3 i,
    )

KeepsTrace-prop : (key_at : KeyAt) (start : Start) (entries : List Entry) (t : Trace)
    → IsProp (KeepsTrace (AreTrees key_at) start entries t)
KeepsTrace-prop key_at start entries t = hlevel (props, TraceInfo-set, KeepsTrack-prop)

IsUntold-prop : (entries : List Entry) (id : ℕ) → IsProp (IsUntold entries id)
IsUntold-prop entries id = hlevel (props, TraceInfo-set, PublishedTree-set)

IsSoundRegistry-prop : (r : RegistryValue) → IsProp (IsSoundRegistry r)
IsSoundRegistry-prop r = hlevel props

pub StandsFor-prop : (key_at : KeyAt) (start : Start) (r : RegistryValue) (entries : List Entry)
    → IsProp (StandsFor (AreTrees key_at) start r entries)
StandsFor-prop key_at start r entries = hlevel (props, IsSoundRegistry-prop, IsUntold-prop, KeepsTrace-prop)

pub AreUsedBy-prop : (traces : List Trace) (queries : List AskIds) → IsProp (AreUsedBy traces queries)
AreUsedBy-prop traces queries = hlevel props
