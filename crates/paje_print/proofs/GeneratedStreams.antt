-- The streams of the generated trace are legal.
use Rattle.std.proofs.Common.{◌≡◌, ℕ, ◌+◌, ◌*◌, ◌<◌, ◌≤◌, suc, List, [], ◌∷◌, length}
use Rattle.std.proofs.Common.{filter, refl, sym, subst, arith, nat_eq}
use Rattle.std.specs.List.{AllByRecursion, flat_map, position_or_len}
use Rattle.std.proofs.lemmas.List.{append-nil}
use Rattle.std.proofs.lemmas.List.Elements.{All-from_recursion}
use Rattle.std.proofs.lemmas.List.Sums.{prefix_len-le-length}
use Rattle.list_lemmas.proofs.Each.{all_append}
use Rattle.list_lemmas.proofs.Filters.{length-filter_le}
use Rattle.list_lemmas.proofs.Maps.{flat_map-push}
use Rattle.trace_base.specs.Stream.{is_enter, IsLegal}
use Rattle.trace_base.specs.declared.stream.Event.{Event}
use Rattle.paje_legal.proofs.StreamRuns.{Runs, runs-append, IsNumbered, IsLegal-from_runs}
use Rattle.paje_print.specs.Generated.{kernel_of, track_of_bundle, bundles_on, clock_behind, bundle_end}
use Rattle.paje_print.specs.Generated.{bundle_events, generated_end, generated_stream, kernels_called}
use Rattle.paje_print.proofs.GeneratedTimes.{each_bundle, clock-push, clock-rises, clock-in_time, end-within}
use Rattle.paje_print.proofs.GeneratedTimes.{bundles-within}

abbrev pub events_on : ℕ → List ℕ → List ℕ → List Event
events_on seed kernels bundles = flat_map (bundle_events seed kernels) bundles

-- ---- they run from the track's clock before a bundle to the clock behind it

bundle-runs : (seed : ℕ) (kernels : List ℕ) (n : ℕ)
    → Runs (clock_behind seed (track_of_bundle n) n) 0 (bundle_events seed kernels n) (bundle_end seed n) 0
bundle-runs seed kernels n = (
  omega arith,
  omega arith,
  (
    omega arith,
    omega arith,
    (
      omega arith,
      omega arith,
      (
        omega arith,
        omega arith,
        (omega arith, refl),
      ),
    ),
  ),
)

bundle-runs_on : (seed : ℕ) (kernels : List ℕ) (track n : ℕ) → track_of_bundle n ≡ track
    → Runs (clock_behind seed track n) 0 (bundle_events seed kernels n) (clock_behind seed track (suc n)) 0
bundle-runs_on seed kernels track n on =
    let events : List Event = bundle_events seed kernels n in
    subst (λ t. Runs (clock_behind seed t n) 0 events (clock_behind seed t (suc n)) 0) on
    (subst (λ end. Runs (clock_behind seed (track_of_bundle n) n) 0 events end 0) (sym (clock-push seed n))
    (bundle-runs seed kernels n))

runs-later : (es : List Event) (a n b m c : ℕ) → b ≤ c → Runs a n es b m → Runs a n es c m
runs-later es a n b m c later runs = subst (λ es. Runs a n es c m) (append-nil es)
    (runs-append es [] a n b m c m runs (later, refl))

events-run : (seed : ℕ) (kernels : List ℕ) (track n : ℕ)
    → Runs 0 0 (events_on seed kernels (bundles_on track n)) (clock_behind seed track n) 0
events-run seed kernels track =
    let clock : ℕ → ℕ = clock_behind seed track in
    let before : ℕ → List Event = λ n. events_on seed kernels (bundles_on track n) in
    each_bundle track (λ n bs. Runs 0 0 (events_on seed kernels bs) (clock n) 0) (omega arith, refl)
    (λ n on runs. subst (λ es. Runs 0 0 es (clock (suc n)) 0)
    (sym (flat_map-push (bundle_events seed kernels) (bundles_on track n) n))
    (runs-append (before n) (bundle_events seed kernels n) 0 0 (clock n) 0 (clock (suc n)) 0 runs
    (bundle-runs_on seed kernels track n on)))
    (λ n runs. runs-later (before n) 0 0 (clock n) 0 (clock (suc n))
    (clock-rises seed track n (suc n) (omega arith)) runs)

pub stream-runs : (seed count track : ℕ) → track < 128
    → Runs 0 0 (generated_stream seed count track).events (generated_end seed count) 0
stream-runs seed count track small =
    let early : clock_behind seed track count ≤ generated_end seed count =
    omega (arith, clock-in_time seed count track small) in
    runs-later (generated_stream seed count track).events 0 0 (clock_behind seed track count) 0
    (generated_end seed count) early (events-run seed (kernels_called seed count) track count)

-- ---- functions

event-numbered : (seed : ℕ) (kernels : List ℕ) (n : ℕ)
    → AllByRecursion (IsNumbered (length kernels + 2)) (bundle_events seed kernels n)
event-numbered seed kernels n =
    let place : position_or_len (nat_eq (kernel_of seed n)) kernels ≤ length kernels =
    prefix_len-le-length _ kernels in
    ((omega arith, omega arith), ((omega arith, omega (arith, place)), (tt, (tt, tt))))

events-numbered : (seed : ℕ) (kernels bundles : List ℕ)
    → AllByRecursion (IsNumbered (length kernels + 2)) (events_on seed kernels bundles)
events-numbered seed kernels [] = tt
events-numbered seed kernels (n ∷ ns) =
    all_append (IsNumbered (length kernels + 2)) (bundle_events seed kernels n) (events_on seed kernels ns)
    (event-numbered seed kernels n) (events-numbered seed kernels ns)

-- ---- how many there are

pub length-events : (seed : ℕ) (kernels bundles : List ℕ)
    → length (events_on seed kernels bundles) ≡ 4 * length bundles
length-events seed kernels [] = refl
length-events seed kernels (n ∷ ns) = omega (arith, length-events seed kernels ns)

-- ---- legal

pub stream-legal : (seed count track : ℕ) → track < 128 → count ≤ 250000
    → length (kernels_called seed count) ≤ 8 → IsLegal (generated_stream seed count track)
stream-legal seed count track small few kinds =
    let kernels : List ℕ = kernels_called seed count in
    let events : List Event = (generated_stream seed count track).events in
    let entered : length (filter is_enter events) ≤ length events = length-filter_le is_enter events in
    let all = length-events seed kernels (bundles_on track count) in
    let bundles = bundles-within track count small few in
    IsLegal-from_runs (generated_stream seed count track) (length kernels + 2)
    (omega (arith, end-within seed count few)) (stream-runs seed count track small)
    (omega (arith, entered, all, bundles))
    (All-from_recursion (IsNumbered (length kernels + 2)) events
    (events-numbered seed kernels (bundles_on track count))) (omega (arith, kinds))
