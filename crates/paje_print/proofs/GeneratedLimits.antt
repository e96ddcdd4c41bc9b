-- The generated trace keeps every limit of a trace.
use Rattle.std.proofs.Common.{ℕ, ◌≤◌, zero, suc, List, ◌+◌, ◌*◌, ◌<◌, ◌≡◌, length, ap, ◌∙◌, arith}
use Rattle.std.specs.List.{range_with_len, sum_by}
use Rattle.std.proofs.lemmas.List.{length-map}
use Rattle.std.proofs.lemmas.List.Elements.{All-from_recursion}
use Rattle.std.proofs.lemmas.List.FromFn.{length-range_with_len}
use Rattle.std.proofs.lemmas.List.Sums.{sum_by-le}
use Rattle.trace_base.specs.declared.stream.TrackStream.{TrackStream}
use Rattle.paje_print.specs.Canonical.{IsCanonical, KeepsLimits, FitsOnLine, state_lines_of}
use Rattle.paje_print.specs.CanonicalText.{canonical_lines, canonical_text}
use Rattle.paje_print.specs.Generated.{bundles_in, bundles_on, functions_generated, generated_end}
use Rattle.paje_print.specs.Generated.{generated_stream, generated_trace, generated_track, kernels_called}
use Rattle.paje_print.specs.Generated.{trace_of_bundles}
use Rattle.paje_print.specs.declared.generator.TheConstants.{MAX_SIZE}
use Rattle.paje_print.proofs.GeneratedCanonical.{canonical-within}
use Rattle.paje_print.proofs.GeneratedFunctions.{kernels-few, kernel_text, functions-are}
use Rattle.paje_print.proofs.GeneratedLinks.{links-few}
use Rattle.paje_print.proofs.GeneratedNames.{streams_made, each_stream, length-containers}
use Rattle.paje_print.proofs.GeneratedStreams.{length-events}
use Rattle.paje_print.proofs.GeneratedText.{text-within}
use Rattle.paje_print.proofs.GeneratedTimes.{bundles-within, end-within}

functions-few : (seed count : ℕ) → length (functions_generated seed count) ≤ 9
functions-few seed zero = omega arith
functions-few seed (suc n) =
    let many = length-map (kernels_called seed (suc n)) kernel_text in
    omega (arith, ap length (functions-are seed n), kernels-few seed (suc n), many)

-- of a track with at most 1954 bundles
states-on : (seed count track : ℕ) → track < 128 → count ≤ 250000
    → state_lines_of (generated_stream seed count track) ≤ 4 * 1954 + 1
states-on seed count track low few =
    let many = length-events seed (kernels_called seed count) (bundles_on track count) in
    omega (arith, many, bundles-within track count low few)

states-few : (seed count : ℕ) → count ≤ 250000
    → sum_by state_lines_of (streams_made seed count) ≤ 128 * (4 * 1954 + 1)
states-few seed count few =
    let streams : List TrackStream = streams_made seed count in
    let many : length streams ≡ 128 =
    length-map (range_with_len 0 128) (generated_stream seed count) ∙ length-range_with_len 0 128 in
    omega (
      arith,
      many,
      sum_by-le state_lines_of (4 * 1954 + 1) streams
          (All-from_recursion (λ s. state_lines_of s ≤ 4 * 1954 + 1) streams
          (each_stream seed count (λ s. state_lines_of s ≤ 4 * 1954 + 1)
          (λ track low. states-on seed count track low few))),
    )

limits-kept : (seed count : ℕ) → count ≤ 250000 → KeepsLimits (trace_of_bundles seed count)
unfolding canonical_text
limits-kept seed count few = record {
  time = omega (arith, end-within seed count few);
  containers = omega (arith, length-containers (generated_end seed count));
  types = omega arith;
  tracks = omega (arith, length-map (range_with_len 0 128) generated_track, length-range_with_len 0 128);
  functions = omega (arith, functions-few seed count);
  states = omega (arith, states-few seed count few);
  links = omega (arith, links-few seed count, few);
  lines = All-from_recursion FitsOnLine (canonical_lines (trace_of_bundles seed count))
      (text-within seed count few).fit;
  text = omega (arith, (text-within seed count few).together);
}

pub generated-canonical : (seed size : ℕ) → size ≤ MAX_SIZE → IsCanonical (generated_trace seed size)
generated-canonical seed size within =
    let few : bundles_in size ≤ 250000 = omega (arith, within) in
    canonical-within seed (bundles_in size) few (limits-kept seed (bundles_in size) few)
