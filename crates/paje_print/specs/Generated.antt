-- The generated trace: 64 ranks with two tracks each, on which bundles of two calls stand one behind another,
-- and a message for each bundle of an odd track. Times are nanoseconds.
use Rattle.std.specs.Prelude.{ℕ, zero, suc, ◌+◌, ◌*◌, ◌/◌, ◌%◌, ◌^◌, ◌==◌, Bool, true, false, List, [], ◌∷◌}
use Rattle.std.specs.Prelude.{◌++◌, map, filter, flat_map, fold, max, sum_by, codes, decimal, nat_eq}
use Rattle.std.specs.Prelude.{if◌then◌else◌}
use Rattle.std.specs.List.{position_or_len, range_with_len}
use Rattle.trace_base.specs.declared.messages.LinkEvent.{LinkEvent}
use Rattle.trace_base.specs.declared.names.Container.{Container}
use Rattle.trace_base.specs.declared.names.Track.{Track}
use Rattle.trace_base.specs.declared.stream.Event.{Event}
use Rattle.trace_base.specs.declared.stream.Event.TheVariants.{Enter, Leave}
use Rattle.trace_base.specs.declared.stream.TrackStream.{TrackStream}
use Rattle.trace_base.specs.declared.text.TraceText.{TraceText}
use Rattle.paje_lines.specs.Found.{distinct_by}

-- ---- random kernels

abbrev pub next_random : ℕ → ℕ
next_random x = (6364136223846793005 * x + 1442695040888963407) % 2 ^ 64

-- the value behind a number of steps
abbrev pub random_after : ℕ → ℕ → ℕ
random_after seed zero = seed
random_after seed (suc steps) = next_random (random_after seed steps)

-- the kernel of a bundle, one of eight; the value is stepped before it is used
abbrev pub kernel_of : ℕ → ℕ → ℕ
kernel_of seed bundle = random_after seed (bundle + 1) / 2 ^ 61

-- ---- bundles, on the tracks in turn

abbrev pub bundles_in : ℕ → ℕ
bundles_in size = size / 4

abbrev pub track_of_bundle : ℕ → ℕ
track_of_bundle bundle = bundle % 128

-- the first so many bundles that are on a track
abbrev pub bundles_on : ℕ → ℕ → List ℕ
bundles_on track count = filter (λ bundle. track_of_bundle bundle == track) (range_with_len 0 count)

-- how long its kernel runs
abbrev pub kernel_time : ℕ → ℕ → ℕ
kernel_time seed bundle = 1000 * (kernel_of seed bundle + 1)

-- from the end of the bundle before it on its track to its own
abbrev pub bundle_time : ℕ → ℕ → ℕ
bundle_time seed bundle = 1200 + kernel_time seed bundle

-- how long a track's bundles among the first so many take
abbrev pub clock_behind : ℕ → ℕ → ℕ → ℕ
clock_behind seed track count = sum_by (bundle_time seed) (bundles_on track count)

abbrev pub bundle_start : ℕ → ℕ → ℕ
bundle_start seed bundle = clock_behind seed (track_of_bundle bundle) bundle + 1000

abbrev pub bundle_end : ℕ → ℕ → ℕ
bundle_end seed bundle = bundle_start seed bundle + 200 + kernel_time seed bundle

-- ---- functions

-- the different kernels in the order of their first calls, over the tracks one after another
abbrev pub kernels_called : ℕ → ℕ → List ℕ
kernels_called seed count = distinct_by nat_eq
    (flat_map (λ track. map (kernel_of seed) (bundles_on track count)) (range_with_len 0 128))

-- each bundle calls `work`, and `work` its kernel
abbrev pub functions_generated : ℕ → ℕ → List (List ℕ)
functions_generated seed count = if count == 0 then [] else codes "work"
    ∷ map (λ kernel. codes "kernel " ++ decimal kernel) (kernels_called seed count)

-- ---- tracks

abbrev pub bundle_events : ℕ → List ℕ → ℕ → List Event
bundle_events seed kernels bundle = Enter 1 (bundle_start seed bundle)
    ∷ Enter (position_or_len (nat_eq (kernel_of seed bundle)) kernels + 2) (bundle_start seed bundle + 100)
    ∷ Leave (bundle_start seed bundle + 100 + kernel_time seed bundle)
    ∷ Leave (bundle_end seed bundle) ∷ []

-- the greatest of the tracks' last ends, and 1000 more
abbrev pub generated_end : ℕ → ℕ → ℕ
generated_end seed count = fold max 0 (map (λ track. clock_behind seed track count) (range_with_len 0 128))
    + 1000

abbrev pub generated_stream : ℕ → ℕ → ℕ → TrackStream
generated_stream seed count track = record {
  start = 0;
  end = generated_end seed count;
  events = flat_map (bundle_events seed (kernels_called seed count)) (bundles_on track count);
}

-- Container 0 is the root; those of the ranks come behind it.
abbrev pub generated_track : ℕ → Track
generated_track track = record { container = track / 2 + 1; kind = track % 2 }

abbrev pub generated_container : ℕ → List ℕ → Container
generated_container end name = record { name = name; start = 0; end = end }

abbrev pub generated_containers : ℕ → List Container
generated_containers end = generated_container end (codes "0")
    ∷ map (λ rank. generated_container end (codes "rank " ++ decimal rank)) (range_with_len 0 64)

-- ---- messages

abbrev pub rank_of_bundle : ℕ → ℕ
rank_of_bundle bundle = track_of_bundle bundle / 2

-- one end of the message of a bundle: its key is the bundle's number
abbrev pub link_end : Bool → ℕ → ℕ → ℕ → ℕ → LinkEvent
link_end starts bundle rank time size = record {
  starts = starts;
  kind = 0;
  key = decimal bundle;
  container = rank + 1;
  time = time;
  size = size;
}

-- from the track's rank to the next, the last one's being the first
abbrev pub bundle_links : ℕ → ℕ → List LinkEvent
bundle_links seed bundle = if track_of_bundle bundle % 2 == 0 then []
    else link_end true bundle (rank_of_bundle bundle) (bundle_start seed bundle)
    (8 * (kernel_of seed bundle + 1))
    ∷ link_end false bundle ((rank_of_bundle bundle + 1) % 64) (bundle_end seed bundle) 0 ∷ []

-- ---- the trace

-- with so many bundles
abbrev pub trace_of_bundles : ℕ → ℕ → TraceText
trace_of_bundles seed count = record {
  names = record {
    end = generated_end seed count;
    containers = generated_containers (generated_end seed count);
    kinds = codes "code" ∷ codes "mpi" ∷ [];
    link_kinds = codes "msg" ∷ [];
    tracks = map generated_track (range_with_len 0 128);
    functions = functions_generated seed count;
  };
  tracks = map (generated_stream seed count) (range_with_len 0 128);
  links = flat_map (bundle_links seed) (range_with_len 0 count);
}

-- of so many state events
abbrev pub generated_trace : ℕ → ℕ → TraceText
generated_trace seed size = trace_of_bundles seed (bundles_in size)
