-- What the registry answers to the calls of a load, and what becomes of it.
use Rattle.std.specs.Prelude.{◌≡◌, ℕ, ◌+◌, ◌-◌, ◌<◌, [], ◌∷◌, ◌++◌, length, slice_get}
use Rattle.std.specs.Prelude.{None, Some, Result, Ok, Err, IsTrue}
use Rattle.trace_base.specs.declared.limits.TheConstants.{MAX_OPEN_TRACES}
use Rattle.trace_base.specs.declared.names.TraceInfo.{TraceInfo}
use Rattle.registry_core.specs.declared.answers.Opened.{Opened}
use Rattle.registry_core.specs.declared.answers.RegEnd.{RegEnd}
use Rattle.registry_core.specs.declared.answers.RegEnd.TheVariants.{Ended, Kept}
use Rattle.registry_core.specs.declared.answers.RegFault.{RegFault}
use Rattle.registry_core.specs.declared.answers.RegFault.TheVariants.{Memory, Spent, Full}
use Rattle.registry_core.specs.Registry.{FitsPlaces, LacksPlaces, RegistryValue, after_entry, kept_trace}
use Rattle.registry_core.specs.Registry.{open_count, with_changed, without_trace}
use Rattle.registry_core.specs.Trace.{Trace, just_opened, kept_for_users, loaded, promise_of}
use Rattle.registry_core.specs.Trace.{published_tracks, roots_in, with_root}

-- the entries of a whole load: one to open the trace, one a track, and one to end it
abbrev pub entries_of_load : TraceInfo → ℕ
entries_of_load info = length info.names.tracks + 2

-- the registry with one trace more, which has the next id; the places of its other entries are promised
abbrev pub with_opened : RegistryValue → TraceInfo → RegistryValue
with_opened r info = record {
  place = r.place + 1;
  next_id = r.next_id + 1;
  promised = r.promised + length info.names.tracks + 1;
  traces = r.traces ++ just_opened r.next_id info ∷ [];
}

-- What admit answers. Spent comes where the entries of the whole load don't fit any more, and Full, behind
-- it, where the most traces are open, which makes an entry. Only a trace that is opened takes memory.
abbrev pub AdmitsIn : RegistryValue → TraceInfo → Result Opened RegFault → RegistryValue → Type 0
AdmitsIn old info (Ok opened) new = FitsPlaces old (entries_of_load info)
    × (open_count old.traces < MAX_OPEN_TRACES)
    × (opened ≡ record { id = old.next_id; place = old.place + 1 }) × (new ≡ with_opened old info)
AdmitsIn old info (Err (Full place)) new = FitsPlaces old (entries_of_load info)
    × (open_count old.traces ≡ MAX_OPEN_TRACES) × (place ≡ old.place + 1) × (new ≡ after_entry old)
AdmitsIn old info (Err (Spent p)) new = LacksPlaces old (entries_of_load info) p × (new ≡ old)
AdmitsIn old info (Err Memory) new = FitsPlaces old (entries_of_load info)
    × (open_count old.traces < MAX_OPEN_TRACES) × (new ≡ old)

-- ---- loading traces

-- the trace is kept and loading
abbrev pub IsLoadingTrace : RegistryValue → ℕ → Type 0
IsLoadingTrace r id = (t : Trace) × (kept_trace r.traces id ≡ Some t) × IsTrue t.loading

-- it is loading, and this is a track of it that isn't published yet
abbrev pub AwaitsTrack : RegistryValue → ℕ → ℕ → Type 0
AwaitsTrack r id track = (t : Trace) × (kept_trace r.traces id ≡ Some t) × IsTrue t.loading
    × (slice_get t.tracks track ≡ Some None)

-- it is loading, and all its tracks are published
abbrev pub AwaitsSeal : RegistryValue → ℕ → Type 0
AwaitsSeal r id = (t : Trace) × (kept_trace r.traces id ≡ Some t) × IsTrue t.loading
    × (published_tracks t ≡ length t.tracks)

-- the registry after one of the trace's promised entries, by which f changes the trace
abbrev pub after_promised : RegistryValue → ℕ → (Trace → Trace) → RegistryValue
after_promised r id f = record {
  place = r.place + 1;
  next_id = r.next_id;
  promised = r.promised - 1;
  traces = with_changed id f r.traces;
}

-- after the publication of a track
abbrev pub with_published : RegistryValue → ℕ → ℕ → ℕ → ℕ → RegistryValue
with_published r id track start root = after_promised r id
    (with_root track (record { start = start; root = root; place = r.place + 1 }))

-- after the load has ended
abbrev pub with_sealed : RegistryValue → ℕ → RegistryValue
with_sealed r id = after_promised r id loaded

-- ---- traces that end

-- the registry after a trace has ended that is kept for its users; what was promised to it is free
abbrev pub with_kept : RegistryValue → Trace → RegistryValue
with_kept r t = record {
  place = r.place + 1;
  next_id = r.next_id;
  promised = r.promised - promise_of t;
  traces = with_changed t.id kept_for_users r.traces;
}

-- the registry after a trace has ended that nobody uses
abbrev pub with_ended : RegistryValue → Trace → RegistryValue
with_ended r t = record {
  place = r.place + 1;
  next_id = r.next_id;
  promised = r.promised - promise_of t;
  traces = without_trace t.id r.traces;
}

-- What becomes of a trace that is ended: where it has users it is kept, else its roots come free.
abbrev pub EndsIn : RegistryValue → ℕ → RegEnd → RegistryValue → Type 0
EndsIn old id (Ended place roots) new = (t : Trace) × (kept_trace old.traces id ≡ Some t)
    × (t.users ≡ 0) × (place ≡ old.place + 1) × (roots ≡ roots_in t.tracks) × (new ≡ with_ended old t)
EndsIn old id (Kept place) new = (t : Trace) × (kept_trace old.traces id ≡ Some t)
    × (0 < t.users) × (place ≡ old.place + 1) × (new ≡ with_kept old t)
