-- How long the generated trace's canonical text is, with at most 250,000 bundles.
use Rattle.std.proofs.Common.{◌≡◌, ℕ, ◌+◌, ◌-◌, ◌*◌, ◌^◌, ◌<◌, ◌≤◌, List, [], ◌∷◌, ◌++◌, length, map, codes}
use Rattle.std.proofs.Common.{refl, arith, length-append}
use Rattle.std.specs.Prelude.{decimal}
use Rattle.std.specs.List.{AllByRecursion, enumerate_from, flat_map, range_with_len, zip}
use Rattle.std.proofs.lemmas.List.FromFn.{length-range_with_len}
use Rattle.list_lemmas.proofs.Each.{all_mapped}
use Rattle.list_lemmas.proofs.Maps.{enumerate-range_all, length-zipped}
use Rattle.trace_base.specs.Stream.{time_of}
use Rattle.trace_base.specs.declared.messages.LinkEvent.{LinkEvent}
use Rattle.trace_base.specs.declared.names.Container.{Container}
use Rattle.trace_base.specs.declared.names.Track.{Track}
use Rattle.trace_base.specs.declared.stream.Event.{Event}
use Rattle.trace_base.specs.declared.stream.Event.TheVariants.{Enter, Leave}
use Rattle.trace_base.specs.declared.stream.TrackStream.{TrackStream}
use Rattle.paje_legal.proofs.StreamRuns.{Runs}
use Rattle.paje_legal.proofs.StreamRuns.{runs-order}
use Rattle.paje_print.specs.CanonicalText.{process_type_line, state_type_line, link_type_line, create_line}
use Rattle.paje_print.specs.CanonicalText.{destroy_line, reset_line, state_line, track_lines, link_line}
use Rattle.paje_print.specs.CanonicalText.{canonical_lines}
use Rattle.paje_print.specs.Generated.{bundle_end, bundles_on, kernels_called, functions_generated}
use Rattle.paje_print.specs.Generated.{generated_end}
use Rattle.paje_print.specs.Generated.{generated_stream, generated_track, trace_of_bundles}
use Rattle.paje_print.specs.WrittenEvents.{definitions_written}
use Rattle.paje_print.specs.WrittenWords.{WrittenLine}
use Rattle.paje_print.proofs.GeneratedLines.{functions-short, state_type-within, link_type-within}
use Rattle.paje_print.proofs.GeneratedLines.{link-within}
use Rattle.paje_print.proofs.GeneratedLines.{create-within, destroy-within, reset-within, event-within}
use Rattle.paje_print.proofs.GeneratedLinks.{message_start, message_end, links_of, each_link, links-few}
use Rattle.paje_print.proofs.GeneratedNames.{rank_made, ranks_made, tracks_made, streams_made, each_pair}
use Rattle.paje_print.proofs.GeneratedSizes.{IsWithin, AreWithin, within-none, within-later, within-append}
use Rattle.paje_print.proofs.GeneratedSizes.{within-cons, within-map, within-flat_map, definitions-within}
use Rattle.paje_print.proofs.GeneratedSizes.{length-decimal_two, length-decimal_six}
use Rattle.paje_print.proofs.GeneratedStreams.{stream-runs, length-events}
use Rattle.paje_print.proofs.GeneratedTimes.{kernel-below, bundles-within, bundle_end-in_time, end-within}

-- ---- tracks: 1954 bundles at most, each with four lines of at most 40 bytes

runs-times : (es : List Event) (a n b m : ℕ) → Runs a n es b m → AllByRecursion (λ e. time_of e ≤ b) es
runs-times [] a n b m runs = tt
runs-times (Enter f t ∷ es) a n b m (order, room, later) =
    (runs-order es t (n + 1) b m later, runs-times es t (n + 1) b m later)
runs-times (Leave t ∷ es) a n b m (order, some, later) =
    (runs-order es t (n - 1) b m later, runs-times es t (n - 1) b m later)

events-early : (seed count track : ℕ) → track < 128 → count ≤ 250000
    → AllByRecursion (λ e. time_of e < 10 ^ 9) (generated_stream seed count track).events
events-early seed count track low few =
    let events : List Event = (generated_stream seed count track).events in
    let end : ℕ = generated_end seed count in
    all_mapped (λ e. time_of e ≤ end) (λ e. time_of e < 10 ^ 9)
    (λ e within. omega (arith, within, end-within seed count few)) events
    (runs-times events 0 0 end 0 (stream-runs seed count track low))

abbrev lines_of : ℕ → ℕ → Track × TrackStream → List WrittenLine
lines_of seed count = track_lines (functions_generated seed count)

abbrev pair_made : ℕ → ℕ → ℕ → Track × TrackStream
pair_made seed count track = (generated_track track, generated_stream seed count track)

track-within : (seed count track : ℕ) → track < 128 → count ≤ 250000
    → AreWithin ((4 * 1954 + 1) * 40) (lines_of seed count (pair_made seed count track))
track-within seed count track low few =
    let t : Track = generated_track track in
    let events : List Event = (generated_stream seed count track).events in
    let line : Event → WrittenLine = state_line (functions_generated seed count) t in
    let many = length-events seed (kernels_called seed count) (bundles_on track count) in
    let bundles = bundles-within track count low few in
    let each : AllByRecursion (λ e. IsWithin 40 (line e)) events =
    all_mapped (λ e. time_of e < 10 ^ 9) (λ e. IsWithin 40 (line e))
    (λ e early. event-within (functions_generated seed count) t e (functions-short seed count)
    (omega (arith, low), omega arith) early) events (events-early seed count track low few) in
    within-later (40 + length events * 40) ((4 * 1954 + 1) * 40) (reset_line t 0 ∷ map line events)
    (omega (arith, many, bundles))
    (within-cons 40 (length events * 40) (reset_line t 0) (map line events) (omega arith)
    (reset-within t 0 (omega (arith, low), omega arith) (omega arith))
    (within-map 40 line events (omega arith) each))

abbrev pairs_made : ℕ → ℕ → List (Track × TrackStream)
pairs_made seed count = zip tracks_made (streams_made seed count)

length-pairs : (seed count : ℕ) → length (pairs_made seed count) ≡ 128
length-pairs seed count =
    omega (
      arith,
      length-zipped generated_track (generated_stream seed count) (range_with_len 0 128),
      length-range_with_len 0 128,
    )

tracks-within : (seed count : ℕ) → count ≤ 250000
    → AreWithin 40023040 (flat_map (lines_of seed count) (pairs_made seed count))
tracks-within seed count few =
    let size : ℕ = (4 * 1954 + 1) * 40 in
    let pairs : List (Track × TrackStream) = pairs_made seed count in
    within-later (length pairs * size) 40023040 (flat_map (lines_of seed count) pairs)
    (omega (arith, length-pairs seed count)) (within-flat_map size (lines_of seed count) pairs
    (each_pair seed count (λ p. AreWithin size (lines_of seed count p))
    (λ track low. track-within seed count track low few)))

-- ---- link events: two lines of at most 50 bytes for a bundle at most

links-within : (seed count : ℕ) → count ≤ 250000 → AreWithin 25000000 (map link_line (links_of seed count))
links-within seed count few =
    let links : List LinkEvent = links_of seed count in
    let early : (n : ℕ) → n < count → bundle_end seed n < 10 ^ 9 =
    λ n low. omega (arith, bundle_end-in_time seed count n low, end-within seed count few) in
    within-later (length links * 50) 25000000 (map link_line links) (omega (arith, links-few seed count, few))
    (within-map 50 link_line links (omega arith) (each_link seed count (λ l. IsWithin 50 (link_line l))
    (λ n low. link-within (message_start seed n) (omega (arith, early n low)) (omega arith) (omega arith)
    (length-decimal_six n (omega (arith, low, few))) (omega (arith, kernel-below seed n)))
    (λ n low. link-within (message_end seed n) (early n low) (omega arith) (omega arith)
    (length-decimal_six n (omega (arith, low, few))) (omega arith))))

-- ---- types

abbrev types_written : List WrittenLine
types_written = process_type_line ∷ map state_type_line (enumerate_from 0 (codes "code" ∷ codes "mpi" ∷ []))
    ++ map link_type_line (enumerate_from 0 (codes "msg" ∷ []))

types-within : AreWithin 200 types_written
types-within =
    within-cons 50 150 process_type_line _ (omega arith) (omega arith)
    (within-cons 50 100 (state_type_line (0, codes "code")) _ (omega arith)
    (state_type-within 0 (codes "code") (omega arith) (omega arith))
    (within-cons 50 50 (state_type_line (1, codes "mpi")) _ (omega arith)
    (state_type-within 1 (codes "mpi") (omega arith) (omega arith))
    (within-cons 50 0 (link_type_line (0, codes "msg")) [] (omega arith)
    (link_type-within 0 (codes "msg") (omega arith) (omega arith)) within-none)))

-- ---- containers

abbrev ranks_placed : ℕ → List (ℕ × Container)
ranks_placed end = enumerate_from 1 (ranks_made end)

length-ranks_placed : (end : ℕ) → length (ranks_placed end) ≡ 64
length-ranks_placed end = refl

creates-within : (end : ℕ) → AreWithin 3200 (map create_line (ranks_placed end))
creates-within end =
    let ranks : List (ℕ × Container) = ranks_placed end in
    within-later (length ranks * 50) 3200 (map create_line ranks) (omega (arith, length-ranks_placed end))
    (within-map 50 create_line ranks (omega arith)
    (enumerate-range_all (λ p. IsWithin 50 (create_line p)) 1 64 (rank_made end) (λ k low.
    let digits = length-decimal_two k (omega (arith, low)) in
    create-within (1 + k) (rank_made end k) (omega (arith, low)) (omega arith)
    (omega (arith, length-append (codes "rank ") (decimal k), digits)))))

destroys-within : (end : ℕ) → end < 10 ^ 9 → AreWithin 3200 (map destroy_line (ranks_placed end))
destroys-within end early =
    let ranks : List (ℕ × Container) = ranks_placed end in
    within-later (length ranks * 50) 3200 (map destroy_line ranks) (omega (arith, length-ranks_placed end))
    (within-map 50 destroy_line ranks (omega arith)
    (enumerate-range_all (λ p. IsWithin 50 (destroy_line p)) 1 64 (rank_made end)
    (λ k low. destroy-within (1 + k) (rank_made end k) (omega (arith, low)) early)))

-- ---- all of them

pub text-within : (seed count : ℕ) → count ≤ 250000
    → AreWithin 65033736 (canonical_lines (trace_of_bundles seed count))
text-within seed count few =
    let end : ℕ = generated_end seed count in
    let creates : List WrittenLine = map create_line (ranks_placed end) in
    let tracks : List WrittenLine = flat_map (lines_of seed count) (pairs_made seed count) in
    let links : List WrittenLine = map link_line (links_of seed count) in
    let destroys : List WrittenLine = map destroy_line (ranks_placed end) in
    let early : end < 10 ^ 9 = omega (arith, end-within seed count few) in
    within-later _ 65033736 (canonical_lines (trace_of_bundles seed count)) (omega arith)
    (within-append 4096 _ definitions_written (types_written ++ creates ++ tracks ++ links ++ destroys)
    definitions-within
    (within-append _ 3200 (types_written ++ creates ++ tracks ++ links) destroys
    (within-append _ 25000000 (types_written ++ creates ++ tracks) links
    (within-append _ 40023040 (types_written ++ creates) tracks
    (within-append 200 3200 types_written creates types-within (creates-within end))
    (tracks-within seed count few))
    (links-within seed count few))
    (destroys-within end early)))
