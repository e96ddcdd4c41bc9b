-- Small registries on which the definitions are computed.
use Rattle.std.specs.Prelude.{◌≡◌, ℕ, ◌<◌, true, false, All, List, [], ◌∷◌, Option, None, Some, codes}
use Rattle.trace_base.specs.LegalExamples.{one_process, track_of_kind, with_functions, with_message}
use Rattle.trace_base.specs.LegalExamples.{with_tracks}
use Rattle.hall_history.specs.declared.listing.ListRow.{ListRow}
use Rattle.trace_base.specs.declared.names.TraceInfo.{TraceInfo}
use Rattle.registry_core.specs.Registry.{RegistryValue, kept_trace, new_registry}
use Rattle.registry_core.specs.Trace.{Trace}
use Rattle.registry_core.specs.declared.track_root.TrackRoot.{TrackRoot}

-- ---- the last places

-- with one place left
abbrev pub one_place_left : RegistryValue
one_place_left = new_registry 4611686018427387903 1

-- with none
abbrev pub no_place_left : RegistryValue
no_place_left = new_registry 4611686018427387904 1

-- a trace without tracks, and one with two
abbrev pub no_tracks : TraceInfo
no_tracks = with_tracks []

abbrev pub two_tracks : TraceInfo
two_tracks = with_tracks (track_of_kind 0 0 ∷ track_of_kind 1 0 ∷ [])

-- ---- a load of two tracks, and a query beside it

-- what is published of the first track at place 2, and of the second at place 7
abbrev pub first_root : TrackRoot
first_root = record { start = 0; root = 40; place = 2 }

abbrev pub second_root : TrackRoot
second_root = record { start = 2; root = 41; place = 7 }

-- the slots of a trace with both tracks published, with the first, and with none
abbrev pub both : List (Option TrackRoot)
both = Some first_root ∷ Some second_root ∷ []

abbrev pub only_first : List (Option TrackRoot)
only_first = Some first_root ∷ None ∷ []

abbrev pub neither : List (Option TrackRoot)
neither = None ∷ None ∷ []

-- trace 1 with so many users and these slots: while it is loading, once it is sealed, and once it has ended
abbrev pub loading_trace : ℕ → List (Option TrackRoot) → Trace
loading_trace users slots = record {
  id = 1;
  info = two_tracks;
  closing = false;
  loading = true;
  users = users;
  tracks = slots;
}

abbrev pub sealed_trace : ℕ → List (Option TrackRoot) → Trace
sealed_trace users slots = record (loading_trace users slots) { loading = false }

abbrev pub ended_trace : ℕ → List (Option TrackRoot) → Trace
ended_trace users slots = record (sealed_trace users slots) { closing = true }

-- the registry at a place with so many places promised, which keeps that trace alone
abbrev pub with_one : ℕ → ℕ → Trace → RegistryValue
with_one place promised t = record { place = place; next_id = 2; promised = promised; traces = t ∷ [] }

-- the same once the trace is gone
abbrev pub with_none : ℕ → RegistryValue
with_none place = new_registry place 2

-- while the query uses the trace, with its first track published
abbrev pub in_use_at : ℕ → RegistryValue
in_use_at place = with_one place 2 (loading_trace 1 only_first)

-- the row of the trace there
abbrev pub row_in_use : ListRow
row_in_use = record { id = 1; tracks = 2; published = 1; loading = true }

-- ---- a trace that is closed with two users

abbrev pub closed_with : ℕ → RegistryValue
closed_with users = with_one 10 0 (ended_trace users both)

-- ---- many traces

-- the traces have lesser ids than the one that the next trace gets
abbrev pub HasLesserIds : RegistryValue → Type 0
HasLesserIds r = All (λ (t : Trace). t.id < r.next_id) r.traces

-- the traces of these ids are kept
abbrev pub KeepsTraces : RegistryValue → List ℕ → Type 0
KeepsTraces r ids = All (λ id. (t : Trace) × (kept_trace r.traces id ≡ Some t)) ids

-- ---- traces with different names

-- a trace without tracks, with these functions
abbrev pub no_tracks_but : List (List ℕ) → TraceInfo
no_tracks_but functions = with_message (record one_process { tracks = []; functions = functions })

-- a trace with this id and these functions
abbrev pub with_names : ℕ → List (List ℕ) → Trace
with_names id functions = record {
  id = id;
  info = with_functions functions;
  closing = false;
  loading = false;
  users = 1;
  tracks = None ∷ [];
}

-- two with the same functions, and one each with them in another order, with one fewer, and with one that is
-- spelled otherwise
abbrev pub five_names : RegistryValue
five_names = record {
  place = 20;
  next_id = 6;
  promised = 0;
  traces = with_names 1 (codes "main" ∷ codes "f" ∷ []) ∷ with_names 2 (codes "main" ∷ codes "f" ∷ [])
      ∷ with_names 3 (codes "f" ∷ codes "main" ∷ []) ∷ with_names 4 (codes "main" ∷ [])
      ∷ with_names 5 (codes "main" ∷ codes "g" ∷ []) ∷ [];
}
