-- What the registry answers to queries, and what becomes of it.
use Rattle.std.specs.Prelude.{◌≡◌, ℕ, ◌+◌, ◌≤◌, ◌==◌, ◌&&◌, not, if◌then◌else◌, List, [], ◌∷◌}
use Rattle.std.specs.Prelude.{All, count_by, filter, map, Option, None, Some, is_some}
use Rattle.std.specs.List.{find}
use Rattle.std.specs.Option.{option_map}
use Rattle.hall_history.specs.declared.asks.AskIds.{AskIds}
use Rattle.hall_history.specs.declared.asks.AskIds.TheVariants.{One, Two}
use Rattle.registry_core.specs.declared.answers.RegAsk.{RegAsk}
use Rattle.registry_core.specs.declared.answers.RegAsk.TheVariants.{Pinned, Spent, Unknown}
use Rattle.registry_core.specs.declared.answers.RegUnpin.{RegUnpin}
use Rattle.registry_core.specs.Registry.{FitsPlaces, LacksPlaces, RegistryValue, after_entry, has_id}
use Rattle.registry_core.specs.Registry.{kept_trace, open_trace}
use Rattle.registry_core.specs.Trace.{Trace, is_over, roots_in, used_less, used_more}

-- the ids that are asked for
abbrev pub asked_ids : AskIds → List ℕ
asked_ids (One a) = a ∷ []
asked_ids (Two a b) = a ∷ b ∷ []

-- how often this id is
abbrev pub times_asked : AskIds → ℕ → ℕ
times_asked ids id = count_by (λ x. x == id) (asked_ids ids)

-- the first of them whose trace isn't open
abbrev pub first_unknown : RegistryValue → AskIds → Option ℕ
first_unknown r ids = find (λ id. not (is_some (open_trace r.traces id))) (asked_ids ids)

-- the traces, each with a user more for each time that it is asked for
abbrev pub with_users : AskIds → List Trace → List Trace
with_users ids traces = map (λ t. used_more (times_asked ids t.id) t) traces

-- What ask answers. Spent comes where no place is left, before the ids are looked at; all else makes an
-- entry.
abbrev pub AsksIn : RegistryValue → AskIds → RegAsk → RegistryValue → Type 0
AsksIn old ids (Pinned place) new = FitsPlaces old 1 × (first_unknown old ids ≡ None)
    × (place ≡ old.place + 1)
    × (new ≡ record (after_entry old) { traces = with_users ids old.traces })
AsksIn old ids (Unknown id next place) new = FitsPlaces old 1 × (first_unknown old ids ≡ Some id)
    × (next ≡ old.next_id) × (place ≡ old.place + 1) × (new ≡ after_entry old)
AsksIn old ids (Spent p) new = LacksPlaces old 1 p × (new ≡ old)

-- ---- traces in use

-- each trace is kept, and has as many users as times it is named
abbrev pub AreUsed : RegistryValue → AskIds → Type 0
AreUsed r ids = All (λ id. (t : Trace) × (kept_trace r.traces id ≡ Some t) × (times_asked ids id ≤ t.users))
    (asked_ids ids)

-- the traces, each with a user fewer for each time that it is named
abbrev pub without_users : AskIds → List Trace → List Trace
without_users ids traces = map (λ t. used_less (times_asked ids t.id) t) traces

-- the roots of the trace, if it has ended and now lost its last user
abbrev pub roots_freed : AskIds → List Trace → ℕ → Option (List ℕ)
roots_freed ids traces id = option_map (λ (t : Trace). roots_in t.tracks)
    (find (λ t. has_id id t && is_over t) (without_users ids traces))

-- the roots that come free of the traces that are named, of each trace once
abbrev pub unpinned : AskIds → List Trace → RegUnpin
unpinned (One a) traces = record { first = roots_freed (One a) traces a; second = None }
unpinned (Two a b) traces = record {
  first = roots_freed (Two a b) traces a;
  second = if a == b then None else roots_freed (Two a b) traces b;
}

-- The registry once the traces are given back: those that have ended and have no users left are gone. It
-- makes no entry.
abbrev pub after_unpin : RegistryValue → AskIds → RegistryValue
after_unpin r ids = record r { traces = filter (λ t. not (is_over t)) (without_users ids r.traces) }

-- ---- their names

-- the traces that are named, one or two, have the same list of functions
abbrev pub HaveSameNames : RegistryValue → AskIds → Type 0
HaveSameNames r (One a) = Unit {0}
HaveSameNames r (Two a b) = option_map (λ (t : Trace). t.info.names.functions) (kept_trace r.traces a)
    ≡ option_map (λ (t : Trace). t.info.names.functions) (kept_trace r.traces b)

-- each trace that is named is kept
abbrev pub AreKeptTraces : RegistryValue → AskIds → Type 0
AreKeptTraces r ids = All (λ id. (t : Trace) × (kept_trace r.traces id ≡ Some t)) (asked_ids ids)
