-- Which registry stands for a history: what is open, loading or published, and what is promised, are the
-- same in both.
use Rattle.std.specs.Prelude.{◌≡◌, ℕ, ◌+◌, ◌-◌, ◌≤◌, false, List, length, slice_get, take}
use Rattle.std.specs.Prelude.{Option, None, Some, is_some}
use Rattle.std.specs.List.{list_any, range_with_len}
use Rattle.hall_history.specs.History.{EntryOf, PublishedTree, ends, info_of}
use Rattle.hall_history.specs.History.{is_loading, is_open, opened_ids, promised}
use Rattle.hall_history.specs.History.{published_count, published_of, seals}
use Rattle.node_key.specs.Stands.{KeyAt, Stands}
use Rattle.registry_core.specs.declared.track_root.TrackRoot.{TrackRoot}
use Rattle.registry_core.specs.Registry.{IsSoundRegistry, RegistryValue, kept_trace, open_trace}
use Rattle.registry_core.specs.Trace.{Trace, published_tracks}

-- where a registry was started: the place before the first entry, and the id of the first trace
pub record Start : Type 0 where
  pub place : ℕ
  pub id : ℕ

-- Which start, in nanoseconds, and which root number are what is published.
abbrev pub RootsAre : Type 0 → Type 1
RootsAre X = (start root : ℕ) → X → Type 0

-- they are, where keys are found by number: the root stands for the tree
abbrev pub AreTrees : KeyAt → RootsAre PublishedTree
AreTrees key_at start root p = (start ≡ p.start) × Stands key_at root p.tree

-- the track was published as this, by the n-th entry
pub record IsPublishedBy {X : Type 0} (entries : List (EntryOf X)) (id track n : ℕ) (what : X) : Type 0 where
  pub least : 1 ≤ n
  pub most : n ≤ length entries
  pub before : published_of (take (n - 1) entries) id track ≡ None
  pub from : published_of (take n entries) id track ≡ Some what

-- the slot of a track has what is published of it
abbrev pub KeepsTrack : {X : Type 0} → RootsAre X → Start → List (EntryOf X) → ℕ → ℕ → Option TrackRoot
    → Type 0
KeepsTrack are start entries id track None = published_of entries id track ≡ None
KeepsTrack {X} are start entries id track (Some r) = (what : X) × are r.start r.root what
    × (start.place ≤ r.place) × IsPublishedBy entries id track (r.place - start.place) what

-- the trace has what the history tells of it, whether it is open or has ended
pub record KeepsTrace {X : Type 0} (are : RootsAre X) (start : Start) (entries : List (EntryOf X)) (t : Trace)
    : Type 0 where
  pub info : info_of entries t.id ≡ Some t.info
  pub loading : t.loading ≡ is_loading entries t.id
  pub count : published_tracks t ≡ published_count entries t.id
  pub tracks : (track : ℕ) (slot : Option TrackRoot) → slice_get t.tracks track ≡ Some slot
      → KeepsTrack are start entries t.id track slot

-- no entry is about the trace
pub record IsUntold {X : Type 0} (entries : List (EntryOf X)) (id : ℕ) : Type 0 where
  pub info : info_of entries id ≡ None
  pub count : published_count entries id ≡ 0
  pub published : (track : ℕ) → published_of entries id track ≡ None
  pub sealed : list_any (seals id) entries ≡ false
  pub ended : list_any (ends id) entries ≡ false

-- The registry was started there, and its history since then are these entries.
pub record StandsFor {X : Type 0} (are : RootsAre X) (start : Start) (r : RegistryValue)
    (entries : List (EntryOf X)) : Type 0 where
  pub sound : IsSoundRegistry r
  pub place : r.place ≡ start.place + length entries
  pub ids : opened_ids entries ≡ range_with_len start.id (length (opened_ids entries))
  pub next_id : r.next_id ≡ start.id + length (opened_ids entries)
  pub promised : r.promised ≡ promised entries
  pub untold : (id : ℕ) → r.next_id ≤ id → IsUntold entries id
  pub opens : (id : ℕ) → is_open entries id ≡ is_some (open_trace r.traces id)
  pub traces : (id : ℕ) (t : Trace) → kept_trace r.traces id ≡ Some t → KeepsTrace are start entries t
