-- The events of a track of the generated trace, with one bundle more.
use Rattle.std.proofs.Common.{◌≡◌, ℕ, ◌+◌, ◌*◌, ◌<◌, List, [], ◌∷◌, ◌++◌, length, nat_eq, slice_index_or}
use Rattle.std.proofs.Common.{ap, sym, ◌∙◌, arith}
use Rattle.std.specs.List.{flat_map, position_or_len, sum_by}
use Rattle.std.proofs.lemmas.List.FromFn.{get_or-map-range_with_len, sum_by-map-range_with_len_more}
use Rattle.trace_base.specs.declared.stream.Event.{Event}
use Rattle.trace_base.specs.declared.stream.Event.TheVariants.{Enter, Leave}
use Rattle.trace_base.specs.declared.stream.TrackStream.{TrackStream}
use Rattle.paje_print.specs.Bundles.{AreKernels}
use Rattle.paje_print.specs.Generated.{bundle_events, bundle_start, bundle_time, clock_behind, kernel_of}
use Rattle.paje_print.specs.Generated.{bundles_on, generated_end, generated_stream, kernels_called}
use Rattle.paje_print.specs.Generated.{kernel_time, track_of_bundle}
use Rattle.paje_print.proofs.KernelPlaces.{bundles_of, bundles_of_track, bundles_there, flat_of_track}

pub kernel_read : (seed n : ℕ) (kernels : List ℕ) → AreKernels seed kernels → n < length kernels
    → slice_index_or kernels n 0 ≡ kernel_of seed n
kernel_read seed n kernels are small = ap (λ (ks : List ℕ). slice_index_or ks n 0) are
    ∙ get_or-map-range_with_len (kernel_of seed) 0 (length kernels) n n 0 small (omega arith)

-- how long the first so many bundles of a track take
abbrev pub track_clock : ℕ → ℕ → ℕ → ℕ
track_clock seed track i = sum_by (bundle_time seed) (bundles_of_track track i)

there_before : (track i : ℕ) → track < 128 → bundles_there track (128 * i + track) ≡ i
there_before track i small = omega (arith, small)

on_track : (track i : ℕ) → track < 128 → track_of_bundle (128 * i + track) ≡ track
on_track track i small = omega (arith, small)

start_is : (seed track i : ℕ) → track < 128
    → bundle_start seed (128 * i + track) ≡ track_clock seed track i + 1000
start_is seed track i small = ap (λ t. clock_behind seed t (128 * i + track) + 1000) (on_track track i small)
    ∙ ap (λ (bs : List ℕ). sum_by (bundle_time seed) bs + 1000) (bundles_of track (128 * i + track) small
    ∙ ap (bundles_of_track track) (there_before track i small))

-- what is known when the next bundle of a track is played: its kernel, and when it starts
pub record IsPlayed (track i clock kernel time : ℕ) (kernels : List ℕ) : Type 0 where
  pub on : track < 128
  pub there : 128 * i + track < length kernels
  pub reads : kernel ≡ slice_index_or kernels (128 * i + track) 0
  pub takes : time ≡ 1000 * (kernel + 1)

played_kernel : (seed track i clock kernel time : ℕ) (kernels : List ℕ) → AreKernels seed kernels
    → IsPlayed track i clock kernel time kernels → kernel ≡ kernel_of seed (128 * i + track)
played_kernel seed track i clock kernel time kernels are is =
    is.reads ∙ kernel_read seed (128 * i + track) kernels are is.there

pub clock_played : (seed track i clock kernel time next : ℕ) (kernels : List ℕ) → AreKernels seed kernels
    → IsPlayed track i clock kernel time kernels → clock ≡ track_clock seed track i
    → next ≡ clock + 1000 + 200 + time → next ≡ track_clock seed track (i + 1)
clock_played seed track i clock kernel time next kernels are is clock_is ends =
    let n : ℕ = 128 * i + track in
    let more : track_clock seed track (i + 1) ≡ track_clock seed track i + bundle_time seed n =
    sum_by-map-range_with_len_more (bundle_time seed) (λ i. 128 * i + track) 0 i i (omega arith) in
    let kernel_is : kernel ≡ kernel_of seed n = played_kernel seed track i clock kernel time kernels are is in
    omega (arith, more, kernel_is, clock_is, ends, is.takes)

-- the events that are written for a bundle
abbrev pub events_at : ℕ → ℕ → ℕ → List Event
events_at start number time = Enter 1 start ∷ Enter number (start + 100) ∷ Leave (start + 100 + time)
    ∷ Leave (start + 200 + time) ∷ []

events_are : (seed n start number time : ℕ) (called : List ℕ) → start ≡ bundle_start seed n
    → number ≡ position_or_len (nat_eq (kernel_of seed n)) called + 2 → time ≡ kernel_time seed n
    → events_at start number time ≡ bundle_events seed called n
events_are seed n start number time called starts numbered takes =
    let start_is : ℕ = bundle_start seed n in
    ap (λ (s : ℕ). events_at s number time) starts
    ∙ (ap (λ (k : ℕ). events_at start_is k time) numbered
    ∙ ap (λ (t : ℕ). events_at start_is (position_or_len (nat_eq (kernel_of seed n)) called + 2) t) takes)

pub events_played : (seed track i clock kernel time place : ℕ) (kernels called : List ℕ)
    (old new : List Event)
    → AreKernels seed kernels → IsPlayed track i clock kernel time kernels → clock ≡ track_clock seed track i
    → place ≡ position_or_len (nat_eq kernel) called
    → old ≡ flat_map (bundle_events seed called) (bundles_of_track track i)
    → new ≡ old ++ events_at (clock + 1000) (place + 2) time
    → new ≡ flat_map (bundle_events seed called) (bundles_of_track track (i + 1))
events_played seed track i clock kernel time place kernels called old new are is clock_is found so_far added =
    let n : ℕ = 128 * i + track in
    let kernel_is : kernel ≡ kernel_of seed n = played_kernel seed track i clock kernel time kernels are is in
    let starts : clock + 1000 ≡ bundle_start seed n =
    ap (λ (t : ℕ). t + 1000) clock_is ∙ sym (start_is seed track i is.on) in
    let numbered : place + 2 ≡ position_or_len (nat_eq (kernel_of seed n)) called + 2 =
    ap (λ (p : ℕ). p + 2) (found ∙ ap (λ (k : ℕ). position_or_len (nat_eq k) called) kernel_is) in
    let takes : time ≡ kernel_time seed n = is.takes ∙ ap (λ (k : ℕ). 1000 * (k + 1)) kernel_is in
    added ∙ (ap (λ (es : List Event). old ++ es)
    (events_are seed n (clock + 1000) (place + 2) time called starts numbered takes)
    ∙ (ap (λ (es : List Event). es ++ bundle_events seed called n) so_far
    ∙ flat_of_track (bundle_events seed called) track i))

-- ---- the stream of a track

abbrev pub stream_of : ℕ → List Event → TrackStream
stream_of end events = record { start = 0; end = end; events = events }

pub stream_is : (seed count track end : ℕ) (called : List ℕ) (events : List Event)
    → called ≡ kernels_called seed count → end ≡ generated_end seed count
    → events ≡ flat_map (bundle_events seed called) (bundles_on track count)
    → stream_of end events ≡ generated_stream seed count track
stream_is seed count track end called events called_is end_is events_is =
    ap (λ (e : ℕ). stream_of e events) end_is
    ∙ ap (stream_of (generated_end seed count)) (events_is
    ∙ ap (λ (ks : List ℕ). flat_map (bundle_events seed ks) (bundles_on track count)) called_is)
