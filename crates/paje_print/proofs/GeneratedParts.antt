-- The parts of the generated trace, from what is kept of its bundles.
use Rattle.std.proofs.Common.{◌≡◌, ℕ, ◌+◌, ◌≤◌, ◌/◌, List, length, fold, map, max, nat_eq}
use Rattle.std.proofs.Common.{eqb, slice_index, ap, sym, ◌∙◌, arith}
use Rattle.std.specs.List.{flat_map, range_with_len}
use Rattle.std.proofs.lemmas.List.FromFn.{length-map-range_with_len}
use Rattle.list_lemmas.proofs.Each.{all_filter}
use Rattle.list_lemmas.proofs.Maps.{flat_map_agree, map_agree_all}
use Rattle.list_lemmas.proofs.Ranges.{all_range}
use Rattle.trace_base.specs.declared.messages.LinkEvent.{LinkEvent}
use Rattle.trace_base.specs.declared.names.TraceNames.{TraceNames}
use Rattle.trace_base.specs.declared.stream.TrackStream.{TrackStream}
use Rattle.trace_base.specs.declared.text.TraceText.{TraceText}
use Rattle.paje_lines.specs.Found.{distinct_by}
use Rattle.paje_print.specs.Bundles.{AreBundles, AreKernels}
use Rattle.paje_print.specs.Generated.{bundle_links, bundles_on, generated_end, generated_stream}
use Rattle.paje_print.specs.Generated.{kernel_of, kernels_called, trace_of_bundles, track_of_bundle}
use Rattle.paje_print.specs.declared.bundles.Bundles.{Bundles}
use Rattle.paje_print.proofs.GeneratedFunctions.{kernels-few}
use Rattle.paje_print.proofs.GeneratedTimes.{end-within}
use Rattle.paje_print.proofs.StreamSteps.{kernel_read}

-- ---- kernels

pub kernel_count : (seed count : ℕ) (b : Bundles) (kernels : List ℕ) → AreBundles seed count b
    → kernels ≡ b.kernels → length kernels ≡ count
kernel_count seed count b kernels are same = ap length (same ∙ are.kernels)
    ∙ length-map-range_with_len (kernel_of seed) 0 count

pub kernels_are : (seed count : ℕ) (b : Bundles) (kernels : List ℕ) → AreBundles seed count b
    → kernels ≡ b.kernels → AreKernels seed kernels
kernels_are seed count b kernels are same =
    let count_is : length kernels ≡ count = kernel_count seed count b kernels are same in
    same ∙ (are.kernels ∙ ap (λ (n : ℕ). map (kernel_of seed) (range_with_len 0 n)) (sym count_is))

pub kernels_fit : (seed count : ℕ) (b : Bundles) (kernels : List ℕ) → AreBundles seed count b
    → kernels ≡ b.kernels → count ≤ 250000 → length kernels ≤ 250000
kernels_fit seed count b kernels are same few = omega (arith, few, kernel_count seed count b kernels are same)

pub bundle_limit : (size : ℕ) → size ≤ 1000000 → size / 4 ≤ 250000
bundle_limit size few = omega (arith, few)

read_on : (seed track : ℕ) (kernels : List ℕ) → AreKernels seed kernels
    → map (slice_index kernels) (bundles_on track (length kernels))
    ≡ map (kernel_of seed) (bundles_on track (length kernels))
read_on seed track kernels are =
    let count : ℕ = length kernels in
    map_agree_all (slice_index kernels) (kernel_of seed) (bundles_on track count)
    (all_filter (λ n. slice_index kernels n ≡ kernel_of seed n) (λ n. eqb (track_of_bundle n) track)
    (range_with_len 0 count) (all_range (λ n. slice_index kernels n ≡ kernel_of seed n) count
    (λ n small. kernel_read seed n kernels are small)))

called_over : (seed : ℕ) (kernels tracks : List ℕ) → AreKernels seed kernels → distinct_by nat_eq
    (flat_map (λ track. map (slice_index kernels) (bundles_on track (length kernels))) tracks)
    ≡ distinct_by nat_eq (flat_map (λ track. map (kernel_of seed) (bundles_on track (length kernels))) tracks)
called_over seed kernels tracks are = ap (distinct_by nat_eq) (flat_map_agree
    (λ track. map (slice_index kernels) (bundles_on track (length kernels)))
    (λ track. map (kernel_of seed) (bundles_on track (length kernels))) tracks
    (λ track. read_on seed track kernels are))

pub called_are : (seed : ℕ) (kernels called : List ℕ) → AreKernels seed kernels → called ≡ distinct_by nat_eq
    (flat_map (λ track. map (slice_index kernels) (bundles_on track (length kernels))) (range_with_len 0 128))
    → called ≡ kernels_called seed (length kernels)
called_are seed kernels called are is = is ∙ called_over seed kernels (range_with_len 0 128) are

pub called_fit : (seed count : ℕ) (called : List ℕ) → called ≡ kernels_called seed count → length called ≤ 256
called_fit seed count called are = omega (arith, ap length are, kernels-few seed count)

-- ---- the end

pub end_made : (seed count : ℕ) (b : Bundles) (clocks : List ℕ) → AreBundles seed count b → clocks ≡ b.clocks
    → fold max 0 clocks + 1000 ≡ generated_end seed count
end_made seed count b clocks are same = ap (λ (cs : List ℕ). fold max 0 cs + 1000) (same ∙ are.clocks)

pub clocks_fit : (seed count : ℕ) (b : Bundles) (clocks : List ℕ) → AreBundles seed count b
    → clocks ≡ b.clocks → count ≤ 250000 → fold max 0 clocks ≤ 20000000
clocks_fit seed count b clocks are same few =
    omega (arith, end-within seed count few, end_made seed count b clocks are same)

-- ---- the whole

pub trace_made : (seed count : ℕ) (names : TraceNames) (tracks : List TrackStream) (links : List LinkEvent)
    → names ≡ (trace_of_bundles seed count).names
    → tracks ≡ map (generated_stream seed count) (range_with_len 0 128)
    → links ≡ flat_map (bundle_links seed) (range_with_len 0 count)
    → let made : TraceText = record { names = names; tracks = tracks; links = links } in
    made ≡ trace_of_bundles seed count
trace_made seed count names tracks links names_are tracks_are links_are =
    let made : TraceNames → List TrackStream → List LinkEvent → TraceText =
    λ names tracks links. record { names = names; tracks = tracks; links = links } in
    ap (λ (n : TraceNames). made n tracks links) names_are
    ∙ (ap (λ (ts : List TrackStream). made (trace_of_bundles seed count).names ts links) tracks_are
    ∙ ap (made (trace_of_bundles seed count).names (map (generated_stream seed count) (range_with_len 0 128)))
    links_are)
