-- A registry stays sound with each entry of a load, and as many of its traces are open as that says.
use Rattle.std.proofs.Common.{◌≡◌, ℕ, ◌+◌, ◌-◌, ◌<◌, ◌≤◌, Bool, true, false, not, cond, List, [], ◌∷◌, ◌++◌}
use Rattle.std.proofs.Common.{All, Option, None, Some, length, refl, sym, ap, ap₂}
use Rattle.std.proofs.Common.{◌∙◌, subst, arith}
use Rattle.std.specs.Prelude.{is_some, slice_get, slice_set}
use Rattle.std.proofs.lemmas.List.{length-replicate, length-set}
use Rattle.std.proofs.lemmas.List.Elements.{All-filter, All-push, All-weaker}
use Rattle.std.proofs.lemmas.List.Sums.{count_by-le-length, sum_by_push}
use Rattle.list_lemmas.proofs.All.{All-found}
use Rattle.list_lemmas.proofs.Filters.{count-empty, count-filled}
use Rattle.trace_base.specs.Info.{IsLegalInfo}
use Rattle.trace_base.specs.declared.limits.TheConstants.{MAX_OPEN_TRACES}
use Rattle.trace_base.specs.declared.names.TraceInfo.{TraceInfo}
use Rattle.registry_core.specs.declared.track_root.TrackRoot.{TrackRoot}
use Rattle.registry_core.specs.Loading.{AwaitsSeal, AwaitsTrack, IsLoadingTrace, entries_of_load}
use Rattle.registry_core.specs.Loading.{with_ended, with_kept, with_opened, with_published, with_sealed}
use Rattle.registry_core.specs.Registry.{FitsPlaces, IsSoundRegistry, RegistryValue, after_entry, has_id}
use Rattle.registry_core.specs.Registry.{is_open_trace, kept_trace, open_count, with_changed, without_trace}
use Rattle.registry_core.specs.Trace.{IsSoundTrace, Trace, just_opened, kept_for_users, loaded, promise_of}
use Rattle.registry_core.specs.Trace.{published_tracks, with_root}
use Rattle.registry_core.proofs.FilteredLists.{rising-filter}
use Rattle.registry_core.proofs.KeptTraces.{kept_id, kept_own}
use Rattle.registry_core.proofs.OneTrace.{all-changed, count-changed, rises-changed, rises-push, sum-changed}
use Rattle.registry_core.proofs.OneTrace.{sum-without}

-- ---- traces

-- a sound trace is sound at the next place
next-place : (place : ℕ) (t : Trace) → IsSoundTrace place t → IsSoundTrace (place + 1) t
next-place place t sound = record {
  legal = sound.legal;
  tracks = sound.tracks;
  users = omega (arith, sound.users);
  used = sound.used;
  ended = sound.ended;
}

-- so are all
each-next : (place : ℕ) (traces : List Trace) → All (IsSoundTrace place) traces
    → All (IsSoundTrace (place + 1)) traces
each-next place traces all = All-weaker (IsSoundTrace place) (IsSoundTrace (place + 1)) (next-place place)
    traces all

-- what a trace adds to the number of those that are open
abbrev adds_open : Trace → ℕ
adds_open t = cond (is_open_trace t) 1 0

-- the places of a trace that was just opened
promise-opened : (id : ℕ) (info : TraceInfo) → promise_of (just_opened id info) ≡ length info.names.tracks + 1
promise-opened id info = omega (
  arith,
  count-empty TrackRoot (length info.names.tracks),
  length-replicate {A = Option TrackRoot} (length info.names.tracks) None,
)

-- a trace that was just opened is sound
opened-trace : (place id : ℕ) (info : TraceInfo) → IsLegalInfo info → IsSoundTrace place (just_opened id info)
opened-trace place id info legal = record {
  legal = legal;
  tracks = length-replicate (length info.names.tracks) None;
  users = omega arith;
  used = λ closing. absurd cc;
  ended = λ closing. absurd cc;
}

-- a trace that is loading, with one track more, is promised one place less
pub promise-published : (track : ℕ) (root : TrackRoot) (t : Trace) → t.loading ≡ true
    → slice_get t.tracks track ≡ Some None → 1 + promise_of (with_root track root t) ≡ promise_of t
promise-published track root t loading awaits =
    let more = (count-filled t.tracks track root awaits).0 in
    let most = count_by-le-length is_some (slice_set t.tracks track (Some root)) in
    let long = length-set t.tracks track (Some root) in
    let next = with_root track root t in
    let places : 1 + (length next.tracks - published_tracks next + 1)
    ≡ length t.tracks - published_tracks t + 1 = omega (arith, more, most, long) in
    subst (λ b. 1 + cond b (length next.tracks - published_tracks next + 1) 0
    ≡ cond b (length t.tracks - published_tracks t + 1) 0) (sym loading) places

-- a trace whose tracks are all published is promised the place of its end
pub promise-sealed : (t : Trace) → t.loading ≡ true → published_tracks t ≡ length t.tracks
    → 1 + promise_of (loaded t) ≡ promise_of t
promise-sealed t loading all =
    let places : 1 ≡ length t.tracks - published_tracks t + 1 = omega (arith, all) in
    subst (λ b. 1 ≡ cond b (length t.tracks - published_tracks t + 1) 0) (sym loading) places

-- ---- the registry

-- an entry that changes nothing else
pub sound-entry : (r : RegistryValue) → IsSoundRegistry r → FitsPlaces r 1 → IsSoundRegistry (after_entry r)
sound-entry r sound fits = record {
  rising = sound.rising;
  given = sound.given;
  first_id = sound.first_id;
  last_id = omega (arith, sound.last_id);
  few = sound.few;
  promises = sound.promises;
  room = omega (arith, fits);
  each = each-next r.place r.traces sound.each;
}

-- one trace more is open
pub count-opened : (r : RegistryValue) (info : TraceInfo)
    → open_count ((with_opened r info).traces) ≡ open_count r.traces + 1
count-opened r info = sum_by_push adds_open r.traces (just_opened r.next_id info)

-- a trace is opened
pub sound-opened : (r : RegistryValue) (info : TraceInfo) → IsSoundRegistry r
    → FitsPlaces r (entries_of_load info) → open_count r.traces < MAX_OPEN_TRACES → IsLegalInfo info
    → IsSoundRegistry (with_opened r info)
sound-opened r info sound fits free legal = record {
  rising = rises-push r.traces (just_opened r.next_id info) sound.given sound.rising;
  given = All-push (λ (t : Trace). t.id < r.next_id + 1) r.traces (just_opened r.next_id info)
      (All-weaker (λ (t : Trace). t.id < r.next_id) (λ (t : Trace). t.id < r.next_id + 1)
      (λ t lt. omega (arith, lt)) r.traces sound.given) (omega arith);
  first_id = omega arith;
  last_id = omega (arith, sound.last_id);
  few = omega (arith, count-opened r info, free);
  promises = omega (
    arith,
    sound.promises,
    promise-opened r.next_id info,
    sum_by_push promise_of r.traces (just_opened r.next_id info),
  );
  room = omega (arith, fits);
  each = All-push (IsSoundTrace (r.place + 1)) r.traces (just_opened r.next_id info)
      (each-next r.place r.traces sound.each) (opened-trace (r.place + 1) r.next_id info legal);
}

-- a trace is changed by an entry, which frees n of its promised places
sound-changed : (r : RegistryValue) (id n : ℕ) (f : Trace → Trace) (t : Trace) → IsSoundRegistry r
    → kept_trace r.traces id ≡ Some t → ((u : Trace) → (f u).id ≡ u.id) → IsSoundTrace (r.place + 1) (f t)
    → adds_open (f t) ≤ adds_open t → n + promise_of (f t) ≡ promise_of t
    → FitsPlaces r (1 - n) → IsSoundRegistry (record {
      place = r.place + 1;
      next_id = r.next_id;
      promised = r.promised - n;
      traces = with_changed id f r.traces;
    })
sound-changed r id n f t sound kept same new open_one frees fits =
    let sums = sum-changed promise_of f r.traces id t sound.rising kept in
    let counts = sum-changed adds_open f r.traces id t sound.rising kept in
    record {
      rising = rises-changed f same id r.traces sound.rising;
      given = all-changed (λ (u : Trace). u.id < r.next_id) f r.traces id t sound.rising kept sound.given
          (subst (λ i. i < r.next_id) (sym (same t))
          (All-found (λ (u : Trace). u.id < r.next_id) (has_id id) r.traces t sound.given kept));
      first_id = sound.first_id;
      last_id = omega (arith, sound.last_id);
      few = omega (arith, sound.few, counts, open_one);
      promises = omega (arith, sound.promises, sums, frees);
      room = omega (arith, sound.promises, sums, frees, fits);
      each = all-changed (IsSoundTrace (r.place + 1)) f r.traces id t sound.rising kept
          (each-next r.place r.traces sound.each) new;
    }

-- a kept trace of a sound registry is sound at the next place
kept-next : (r : RegistryValue) (id : ℕ) (t : Trace) → IsSoundRegistry r → kept_trace r.traces id ≡ Some t
    → IsSoundTrace (r.place + 1) t
kept-next r id t sound kept = next-place r.place t
    (All-found (IsSoundTrace r.place) (has_id id) r.traces t sound.each kept)

-- a track is published
pub sound-published : (r : RegistryValue) (id track start root : ℕ) → IsSoundRegistry r
    → AwaitsTrack r id track → IsSoundRegistry (with_published r id track start root)
sound-published r id track start root sound (t, kept, loading, awaits) =
    let what : TrackRoot = record { start = start; root = root; place = r.place + 1 } in
    let was = kept-next r id t sound kept in
    sound-changed r id 1 (with_root track what) t sound kept (λ u. refl)
    (record {
      legal = was.legal;
      tracks = length-set t.tracks track (Some what) ∙ was.tracks;
      users = was.users;
      used = was.used;
      ended = was.ended;
    }) (omega arith) (promise-published track what t loading awaits) sound.room

-- a load has ended
pub sound-sealed : (r : RegistryValue) (id : ℕ) → IsSoundRegistry r → AwaitsSeal r id
    → IsSoundRegistry (with_sealed r id)
sound-sealed r id sound (t, kept, loading, all) =
    let was = kept-next r id t sound kept in
    sound-changed r id 1 loaded t sound kept (λ u. refl)
    (record {
      legal = was.legal;
      tracks = was.tracks;
      users = was.users;
      used = was.used;
      ended = λ closing. refl;
    })
    (omega arith) (promise-sealed t loading all) sound.room

-- a trace has ended that is kept for its users
pub sound-kept : (r : RegistryValue) (t : Trace) → IsSoundRegistry r → kept_trace r.traces t.id ≡ Some t
    → t.closing ≡ false → FitsPlaces r (1 - promise_of t) → 0 < t.users → IsSoundRegistry (with_kept r t)
sound-kept r t sound kept on fits used =
    let was = kept-next r t.id t sound kept in
    sound-changed r t.id (promise_of t) kept_for_users t sound kept (λ u. refl)
    (record {
      legal = was.legal;
      tracks = was.tracks;
      users = was.users;
      used = λ closing. used;
      ended = λ closing. refl;
    }) (omega arith) (omega arith) fits

-- a trace has ended that nobody uses
pub sound-ended : (r : RegistryValue) (t : Trace) → IsSoundRegistry r → kept_trace r.traces t.id ≡ Some t
    → t.closing ≡ false → FitsPlaces r (1 - promise_of t) → IsSoundRegistry (with_ended r t)
sound-ended r t sound kept on fits =
    let sums = sum-without promise_of r.traces t.id t sound.rising kept in
    let counts = sum-without adds_open r.traces t.id t sound.rising kept in
    record {
      rising = rising-filter (λ (u : Trace). u.id) (λ u. not (has_id t.id u)) r.traces sound.rising;
      given = All-filter (λ u. not (has_id t.id u)) (λ (u : Trace). u.id < r.next_id) r.traces sound.given;
      first_id = sound.first_id;
      last_id = omega (arith, sound.last_id);
      few = omega (arith, sound.few, counts);
      promises = omega (arith, sound.promises, sums);
      room = omega (arith, sound.promises, sums, fits);
      each = All-filter (λ u. not (has_id t.id u)) (IsSoundTrace (r.place + 1)) r.traces
          (each-next r.place r.traces sound.each);
    }

-- ---- how many are open

-- a trace that is open adds one to their number
open-one : (t : Trace) → t.closing ≡ false → adds_open t ≡ 1
open-one t on = ap (λ b. cond (not b) 1 0) on

-- one trace less is open, where it is kept for its users
pub count-kept : (r : RegistryValue) (t : Trace) → IsSoundRegistry r → kept_trace r.traces t.id ≡ Some t
    → t.closing ≡ false → open_count ((with_kept r t).traces) + 1 ≡ open_count r.traces
count-kept r t sound kept on =
    let counts = sum-changed adds_open kept_for_users r.traces t.id t sound.rising kept in
    omega (arith, counts, open-one t on)

-- one trace less is open, where it is gone
pub count-ended : (r : RegistryValue) (t : Trace) → IsSoundRegistry r → kept_trace r.traces t.id ≡ Some t
    → t.closing ≡ false → open_count ((with_ended r t).traces) + 1 ≡ open_count r.traces
count-ended r t sound kept on =
    let counts = sum-without adds_open r.traces t.id t sound.rising kept in
    omega (arith, counts, open-one t on)

-- as many are open once a track is published
pub count-published : (r : RegistryValue) (id track start root : ℕ)
    → open_count ((with_published r id track start root).traces) ≡ open_count r.traces
count-published r id track start root = count-changed
    (with_root track (record { start = start; root = root; place = r.place + 1 })) (λ u. refl) id r.traces

-- as many are open once a load has ended
pub count-sealed : (r : RegistryValue) (id : ℕ) → open_count ((with_sealed r id).traces) ≡ open_count r.traces
count-sealed r id = count-changed loaded (λ u. refl) id r.traces

-- a kept trace that is open is among those that are counted
pub count-some : (r : RegistryValue) (id : ℕ) (t : Trace) → IsSoundRegistry r
    → kept_trace r.traces id ≡ Some t → t.closing ≡ false → 1 ≤ open_count r.traces
count-some r id t sound kept on =
    let counts = sum-without adds_open r.traces id t sound.rising kept in
    omega (arith, counts, open-one t on)

-- ---- what is known of a kept trace

-- the places that are promised to it are among those that are promised
pub kept-promise : (r : RegistryValue) (id : ℕ) (t : Trace) → IsSoundRegistry r
    → kept_trace r.traces id ≡ Some t → promise_of t ≤ r.promised
kept-promise r id t sound kept =
    let sums = sum-without promise_of r.traces id t sound.rising kept in
    omega (arith, sums, sound.promises)

-- a trace that is loading is promised a place at least
pub promise-loading : (t : Trace) → t.loading ≡ true → 1 ≤ promise_of t
promise-loading t loading = subst (λ b. 1 ≤ cond b (length t.tracks - published_tracks t + 1) 0) (sym loading)
    (omega arith)

-- so a place is promised
pub loading-promise : (r : RegistryValue) (id : ℕ) → IsSoundRegistry r → IsLoadingTrace r id → 1 ≤ r.promised
loading-promise r id sound (t, kept, loading) =
    omega (arith, kept-promise r id t sound kept, promise-loading t loading)

-- ---- what an end asks for

-- the trace is kept and loading, or open while a place is left
abbrev pub MayEnd : RegistryValue → ℕ → Type 0
MayEnd r id = (t : Trace) × (kept_trace r.traces id ≡ Some t)
    × (t.loading ≡ false → (t.closing ≡ false) × FitsPlaces r 1)

-- the trace is open, and its end has a place
abbrev pub HasEnd : RegistryValue → Trace → Type 0
HasEnd r t = (t.closing ≡ false) × FitsPlaces r (1 - promise_of t)

-- where it is kept, and loading or open while a place is left
has-end : (r : RegistryValue) (id : ℕ) (t : Trace) → IsSoundRegistry r → kept_trace r.traces id ≡ Some t
    → (t.loading ≡ false → (t.closing ≡ false) × FitsPlaces r 1) → HasEnd r t
has-end r id t sound kept sealed = by t.loading refl
  where
    on : t.loading ≡ true → (closing : Bool) → t.closing ≡ closing → t.closing ≡ false
    on loading true is =
        let was = All-found (IsSoundTrace r.place) (has_id id) r.traces t sound.each kept in
        let no : true ≡ false = sym loading ∙ was.ended is in
        absurd cc
    on loading false is = is

    by : (loading : Bool) → t.loading ≡ loading → HasEnd r t
    by true loading =
        let least = promise-loading t loading in
        (on loading t.closing refl, omega (arith, least, sound.room))
    by false loading =
        let told = sealed loading in
        (told.0, omega (arith, told.1))

-- a trace that may end has an end
pub may-end : (r : RegistryValue) (id : ℕ) (t : Trace) → IsSoundRegistry r → kept_trace r.traces id ≡ Some t
    → MayEnd r id → HasEnd r t
may-end r id t sound kept (u, found, sealed) =
    let both : Some u ≡ Some t = sym found ∙ kept in
    let same : u ≡ t = cc in
    subst (HasEnd r) same (has-end r id u sound found sealed)

-- ---- the registry after a call, as code tells it

-- a trace was opened: it is sound, and one trace more is open
pub still-opened : (r : RegistryValue) (info : TraceInfo) (n : ℕ) (t : Trace) (traces : List Trace)
    → IsSoundRegistry r → FitsPlaces r (entries_of_load info) → open_count r.traces < MAX_OPEN_TRACES
    → IsLegalInfo info → n ≡ length info.names.tracks + 1 → t ≡ just_opened r.next_id info
    → traces ≡ r.traces ++ t ∷ []
    → IsSoundRegistry
    (record { place = r.place + 1; next_id = r.next_id + 1; promised = r.promised + n; traces = traces })
    × (open_count r.traces + 1 ≡ open_count traces)
still-opened r info n t traces sound fits free legal promise is after =
    let all : traces ≡ (with_opened r info).traces = after ∙ ap (λ u. r.traces ++ u ∷ []) is in
    let places : r.promised + n ≡ r.promised + length info.names.tracks + 1 = omega (arith, promise) in
    let same = ap₂ (λ q ts. record {
      place = r.place + 1;
      next_id = r.next_id + 1;
      promised = q;
      traces = ts;
    }) places all in (
      subst IsSoundRegistry (sym same) (sound-opened r info sound fits free legal),
      sym (count-opened r info) ∙ sym (ap open_count all),
    )

module _ (r : RegistryValue) (id : ℕ) (t : Trace) (kept : kept_trace r.traces id ≡ Some t) (p : ℕ)
    (traces : List Trace) (promise : p ≡ promise_of t) where
  -- the registry after an end that leaves these traces
  abbrev pub after_end : RegistryValue
  after_end = record { place = r.place + 1; next_id = r.next_id; promised = r.promised - p; traces = traces }

  -- a trace that is kept for its users
  pub is-kept : traces ≡ with_changed id kept_for_users r.traces → after_end ≡ with_kept r t
  is-kept after = ap₂ (λ q ts. record {
    place = r.place + 1;
    next_id = r.next_id;
    promised = r.promised - q;
    traces = ts;
  }) promise (after ∙ ap (λ i. with_changed i kept_for_users r.traces) (sym (kept_id r.traces id t kept)))

  -- a trace that nobody uses
  pub is-ended : traces ≡ without_trace id r.traces → after_end ≡ with_ended r t
  is-ended after = ap₂ (λ q ts. record {
    place = r.place + 1;
    next_id = r.next_id;
    promised = r.promised - q;
    traces = ts;
  }) promise (after ∙ ap (λ i. without_trace i r.traces) (sym (kept_id r.traces id t kept)))

  -- with a trace kept for its users it is sound, and one trace less is open
  pub still-kept : IsSoundRegistry r → HasEnd r t → 0 < t.users
      → traces ≡ with_changed id kept_for_users r.traces
      → IsSoundRegistry after_end × (open_count r.traces - 1 ≡ open_count traces)
  still-kept sound (on, fits) used after =
      let own = kept_own r.traces id t kept in
      let is = is-kept after in
      let opens = ap (λ (q : RegistryValue). open_count q.traces) is in (
        subst IsSoundRegistry (sym is) (sound-kept r t sound own on fits used),
        omega (arith, count-kept r t sound own on, opens),
      )

  -- likewise without a trace that nobody uses
  pub still-ended : IsSoundRegistry r → HasEnd r t → traces ≡ without_trace id r.traces
      → IsSoundRegistry after_end × (open_count r.traces - 1 ≡ open_count traces)
  still-ended sound (on, fits) after =
      let own = kept_own r.traces id t kept in
      let is = is-ended after in
      let opens = ap (λ (q : RegistryValue). open_count q.traces) is in (
        subst IsSoundRegistry (sym is) (sound-ended r t sound own on fits),
        omega (arith, count-ended r t sound own on, opens),
      )
