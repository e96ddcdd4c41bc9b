-- The containers and the tracks of the generated trace.
use Rattle.std.proofs.Common.{◌≡◌, ℕ, ◌+◌, ◌/◌, ◌%◌, ◌<◌, suc, List, ◌++◌, length, map, codes}
use Rattle.std.proofs.Common.{slice_get, Some, refl, ap, sym, ◌∙◌, arith}
use Rattle.std.specs.Prelude.{decimal}
use Rattle.std.specs.List.{AllByRecursion, range_with_len, zip}
use Rattle.std.specs.Option.{option_map}
use Rattle.std.proofs.lemmas.Option.{slice_get-map}
use Rattle.list_lemmas.proofs.Each.{all_map, all_zipped}
use Rattle.list_lemmas.proofs.Maps.{slice_get-mapped}
use Rattle.list_lemmas.proofs.Ranges.{all_range, range_at, range_get-first}
use Rattle.trace_base.specs.Info.{NamesExisting}
use Rattle.trace_base.specs.declared.names.Container.{Container}
use Rattle.trace_base.specs.declared.names.Track.{Track}
use Rattle.trace_base.specs.declared.names.TraceNames.{TraceNames}
use Rattle.trace_base.specs.declared.stream.TrackStream.{TrackStream}
use Rattle.paje_print.specs.Canonical.{IsBelowRoot, StartsBeforeItsEnd, SpansItsContainer}
use Rattle.paje_print.specs.Generated.{generated_end, generated_stream, generated_track, generated_container}
use Rattle.paje_print.specs.Generated.{generated_containers, trace_of_bundles}

abbrev pub names_made : ℕ → ℕ → TraceNames
names_made seed count = (trace_of_bundles seed count).names

-- ---- containers

abbrev pub rank_made : ℕ → ℕ → Container
rank_made end rank = generated_container end (codes "rank " ++ decimal rank)

abbrev pub ranks_made : ℕ → List Container
ranks_made end = map (rank_made end) (range_with_len 0 64)

-- what holds of each
pub each_rank : (end : ℕ) (P : Container → Type 0) → ((rank : ℕ) → rank < 64 → P (rank_made end rank))
    → AllByRecursion P (ranks_made end)
each_rank end P holds = all_map P (rank_made end) (range_with_len 0 64)
    (all_range (λ rank. P (rank_made end rank)) 64 holds)

pub length-containers : (end : ℕ) → length (generated_containers end) ≡ 65
length-containers end = refl

pub containers-start : (end : ℕ) → AllByRecursion StartsBeforeItsEnd (generated_containers end)
containers-start end = (omega arith, each_rank end StartsBeforeItsEnd (λ rank low. omega arith))

rank-at : (end rank : ℕ) → rank < 64 → slice_get (generated_containers end) (rank + 1)
    ≡ Some (rank_made end rank)
rank-at end rank low =
    let next : rank + 1 ≡ suc rank = omega arith in
    ap (λ k. slice_get (generated_containers end) k) next
    ∙ (slice_get-map (rank_made end) (range_with_len 0 64) rank
    ∙ ap (option_map (rank_made end)) (range_get-first 64 rank low))

-- ---- tracks, and their streams

abbrev pub tracks_made : List Track
tracks_made = map generated_track (range_with_len 0 128)

abbrev pub streams_made : ℕ → ℕ → List TrackStream
streams_made seed count = map (generated_stream seed count) (range_with_len 0 128)

-- what holds of each
each_track : (P : Track → Type 0) → ((track : ℕ) → track < 128 → P (generated_track track))
    → AllByRecursion P tracks_made
each_track P holds = all_map P generated_track (range_with_len 0 128)
    (all_range (λ track. P (generated_track track)) 128 holds)

pub each_stream : (seed count : ℕ) (P : TrackStream → Type 0)
    → ((track : ℕ) → track < 128 → P (generated_stream seed count track))
    → AllByRecursion P (streams_made seed count)
each_stream seed count P holds = all_map P (generated_stream seed count) (range_with_len 0 128)
    (all_range (λ track. P (generated_stream seed count track)) 128 holds)

pub each_pair : (seed count : ℕ) (P : Track × TrackStream → Type 0)
    → ((track : ℕ) → track < 128 → P (generated_track track, generated_stream seed count track))
    → AllByRecursion P (zip tracks_made (streams_made seed count))
each_pair seed count P holds = all_zipped P generated_track (generated_stream seed count)
    (range_with_len 0 128)
    (all_range (λ track. P (generated_track track, generated_stream seed count track)) 128 holds)

pub tracks-existing : (seed count : ℕ) → AllByRecursion (NamesExisting (names_made seed count)) tracks_made
tracks-existing seed count =
    let many = length-containers (generated_end seed count) in
    each_track (NamesExisting (names_made seed count)) (λ track low. (omega (arith, low, many), omega arith))

pub tracks-below_root : AllByRecursion IsBelowRoot tracks_made
tracks-below_root = each_track IsBelowRoot (λ track low. omega arith)

track-of : (i : ℕ) (track : Track) → slice_get tracks_made i ≡ Some track → generated_track i ≡ track
track-of i track at =
    let there = slice_get-mapped generated_track (range_with_len 0 128) i track at in
    ap generated_track (sym (range_at 128 i there.0 there.1)) ∙ there.2

pub tracks-apart : (i j : ℕ) (track : Track) → slice_get tracks_made i ≡ Some track
    → slice_get tracks_made j ≡ Some track → i ≡ j
tracks-apart i j track at other =
    let same : generated_track i ≡ generated_track j = track-of i track at ∙ sym (track-of j track other) in
    let container : i / 2 + 1 ≡ j / 2 + 1 = ap (λ (t : Track). t.container) same in
    let kind : i % 2 ≡ j % 2 = ap (λ (t : Track). t.kind) same in
    omega (arith, container, kind)

pub tracks-span : (seed count : ℕ) → AllByRecursion (SpansItsContainer (names_made seed count))
    (zip tracks_made (streams_made seed count))
tracks-span seed count =
    let end : ℕ = generated_end seed count in
    each_pair seed count (SpansItsContainer (names_made seed count))
    (λ track low. (rank_made end (track / 2), rank-at end (track / 2) (omega (arith, low)), (refl, refl)))
