-- The registry as a value: the traces of a hall that are open or still in use, the places of the hall's
-- history that are taken or promised, and the id that the next trace gets.
use Rattle.std.specs.Prelude.{◌≡◌, ℕ, ◌+◌, ◌<◌, ◌≤◌, ◌==◌, ◌&&◌, Bool, not, if◌then◌else◌, List, []}
use Rattle.std.specs.Prelude.{All, count_by, filter, map, sum_by, Option, refl}
use Rattle.std.specs.Coded.{Coded, code_by, coded×, coded_list, coded_ℕ}
use Rattle.std.specs.List.{find}
use Rattle.std.specs.List.Sorted.{IsStrictlySortedBy}
use Rattle.std.specs.Ordering.{nat_cmp}
use Rattle.trace_base.specs.declared.limits.TheConstants.{MAX_OPEN_TRACES, MAX_PLACES}
use Rattle.registry_core.specs.Trace.{IsSoundTrace, Trace, promise_of, trace_code}

-- The place of the last entry, the id that the next trace gets, how many places are promised to loading
-- traces, and the traces, rising by id.
pub record RegistryValue : Type 0 where
  pub place : ℕ
  pub next_id : ℕ
  pub promised : ℕ
  pub traces : List Trace

-- ---- its traces

abbrev pub has_id : ℕ → Trace → Bool
has_id id t = t.id == id

abbrev pub is_open_trace : Trace → Bool
is_open_trace t = not t.closing

-- the trace of an id, if it is open or still in use
abbrev pub kept_trace : List Trace → ℕ → Option Trace
kept_trace traces id = find (has_id id) traces

-- the trace of an id, if it is open
abbrev pub open_trace : List Trace → ℕ → Option Trace
open_trace traces id = find (λ t. has_id id t && is_open_trace t) traces

-- how many are open
abbrev pub open_count : List Trace → ℕ
open_count traces = count_by is_open_trace traces

-- the traces, with what f makes of the one of this id
abbrev pub with_changed : ℕ → (Trace → Trace) → List Trace → List Trace
with_changed id f traces = map (λ t. if has_id id t then f t else t) traces

-- the traces but for the one of this id
abbrev pub without_trace : ℕ → List Trace → List Trace
without_trace id traces = filter (λ t. not (has_id id t)) traces

-- ---- its places

-- the places that are taken or promised
abbrev pub taken_places : RegistryValue → ℕ
taken_places r = r.place + r.promised

-- so many more places fit
abbrev pub FitsPlaces : RegistryValue → ℕ → Type 0
FitsPlaces r n = taken_places r + n ≤ MAX_PLACES

-- so many more places don't fit, where p of them are taken or promised
abbrev pub LacksPlaces : RegistryValue → ℕ → ℕ → Type 0
LacksPlaces r n p = (p ≡ taken_places r) × (MAX_PLACES < p + n)

-- the registry after one more entry that changes nothing else
abbrev pub after_entry : RegistryValue → RegistryValue
after_entry r = record r { place = r.place + 1 }

-- the registry without traces, whose next entry comes behind this place and whose next trace gets this id
abbrev pub new_registry : ℕ → ℕ → RegistryValue
new_registry place next_id = record { place = place; next_id = next_id; promised = 0; traces = [] }

-- ---- what holds of it at every moment

-- Ids rise, below the one that the next trace gets, which is at most one more than the entries. The promised
-- places are those of the loading traces, and no more are taken or promised than there are.
pub record IsSoundRegistry (r : RegistryValue) : Type 0 where
  pub rising : IsStrictlySortedBy nat_cmp (map (λ (t : Trace). t.id) r.traces)
  pub given : All (λ (t : Trace). t.id < r.next_id) r.traces
  pub first_id : 1 ≤ r.next_id
  pub last_id : r.next_id ≤ r.place + 1
  pub few : open_count r.traces ≤ MAX_OPEN_TRACES
  pub promises : r.promised ≡ sum_by promise_of r.traces
  pub room : FitsPlaces r 0
  pub each : All (IsSoundTrace r.place) r.traces

-- a registry is stored as the tuple of its fields
abbrev pub registry_code : Coded RegistryValue
registry_code =
    code_by (ℕ × (ℕ × (ℕ × List Trace)))
    (coded× coded_ℕ (coded× coded_ℕ (coded× coded_ℕ (coded_list trace_code))))
    (λ r. (r.place, (r.next_id, (r.promised, r.traces))))
    (λ (place, (next_id, (promised, traces))). record {
      place = place;
      next_id = next_id;
      promised = promised;
      traces = traces;
    }) (λ _. refl)
