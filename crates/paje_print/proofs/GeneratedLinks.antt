-- The link events of the generated trace, two for each bundle of an odd track; and its end.
use Rattle.std.proofs.Common.{◌≡◌, ℕ, ◌+◌, ◌*◌, ◌%◌, ◌<◌, ◌≤◌, List, [], ◌∷◌, length}
use Rattle.std.proofs.Common.{map, drop, fold, max, eqb, true, false, arith}
use Rattle.std.specs.List.{AllByRecursion, flat_map, range_with_len}
use Rattle.std.proofs.lemmas.Bool.{cond_both}
use Rattle.std.proofs.lemmas.List.{length-append}
use Rattle.std.proofs.lemmas.List.FromFn.{length-range_with_len}
use Rattle.list_lemmas.proofs.Each.{all_append, all_flat_map, all_map}
use Rattle.list_lemmas.proofs.Ranges.{all_range}
use Rattle.list_lemmas.proofs.Sums.{greatest_is}
use Rattle.trace_base.specs.declared.messages.LinkEvent.{LinkEvent}
use Rattle.paje_print.specs.Canonical.{HasCanonicalSize, LinksExisting, last_moments}
use Rattle.paje_print.specs.Generated.{kernel_of, track_of_bundle, rank_of_bundle, bundle_start, bundle_end}
use Rattle.paje_print.specs.Generated.{link_end, bundle_links, generated_end, trace_of_bundles}
use Rattle.paje_print.proofs.GeneratedNames.{names_made, ranks_made, each_rank, length-containers}
use Rattle.paje_print.proofs.GeneratedTimes.{kernel-below, bundle_end-in_time}

-- ---- what holds of each

abbrev pub message_start : ℕ → ℕ → LinkEvent
message_start seed n = link_end true n (rank_of_bundle n) (bundle_start seed n) (8 * (kernel_of seed n + 1))

abbrev pub message_end : ℕ → ℕ → LinkEvent
message_end seed n = link_end false n ((rank_of_bundle n + 1) % 64) (bundle_end seed n) 0

abbrev pub links_of : ℕ → ℕ → List LinkEvent
links_of seed count = flat_map (bundle_links seed) (range_with_len 0 count)

-- what holds of both ends of each bundle's message
pub each_link : (seed count : ℕ) (P : LinkEvent → Type 0) → ((n : ℕ) → n < count → P (message_start seed n))
    → ((n : ℕ) → n < count → P (message_end seed n)) → AllByRecursion P (links_of seed count)
each_link seed count P start end = all_flat_map P (bundle_links seed) (range_with_len 0 count)
    (all_range (λ n. AllByRecursion P (bundle_links seed n)) count
    (λ n few. cond_both (eqb (track_of_bundle n % 2) 0) [] (message_start seed n ∷ message_end seed n ∷ [])
    (AllByRecursion P) (λ e. tt) (λ e. (start n few, (end n few, tt)))))

-- ---- how many

length-bundle_links : (seed n : ℕ) → length (bundle_links seed n) ≤ 2
length-bundle_links seed n = cond_both (eqb (track_of_bundle n % 2) 0) [] (message_start seed n
    ∷ message_end seed n ∷ []) (λ links. length links ≤ 2) (λ e. omega arith) (λ e. omega arith)

length-links_by : (seed : ℕ) (bundles : List ℕ) → length (flat_map (bundle_links seed) bundles)
    ≤ 2 * length bundles
length-links_by seed [] = omega arith
length-links_by seed (n ∷ ns) =
    let joined = length-append (bundle_links seed n) (flat_map (bundle_links seed) ns) in
    omega (arith, joined, length-bundle_links seed n, length-links_by seed ns)

pub links-few : (seed count : ℕ) → length (links_of seed count) ≤ 2 * count
links-few seed count =
    let many = length-range_with_len 0 count in
    omega (arith, length-links_by seed (range_with_len 0 count), many)

-- ---- their containers, link types and sizes

pub links-existing : (seed count : ℕ)
    → AllByRecursion (LinksExisting (names_made seed count)) (links_of seed count)
links-existing seed count =
    let many = length-containers (generated_end seed count) in
    each_link seed count (LinksExisting (names_made seed count)) (λ n few. (omega (arith, many), omega arith))
    (λ n few. (omega (arith, many), omega arith))

pub links-sized : (seed count : ℕ) → AllByRecursion HasCanonicalSize (links_of seed count)
links-sized seed count = each_link seed count HasCanonicalSize
    (λ n few. omega (arith, kernel-below seed n)) (λ n few. omega arith)

-- ---- the end

pub links-in_time : (seed count : ℕ) → AllByRecursion (λ l. l.time ≤ generated_end seed count)
    (links_of seed count)
links-in_time seed count = each_link seed count (λ l. l.time ≤ generated_end seed count)
    (λ n few. omega (arith, bundle_end-in_time seed count n few))
    (λ n few. bundle_end-in_time seed count n few)

moments-within : (seed count : ℕ) → AllByRecursion (λ moment. moment ≤ generated_end seed count)
    (last_moments (trace_of_bundles seed count))
moments-within seed count =
    let end : ℕ = generated_end seed count in
    all_append (λ moment. moment ≤ end) (map (λ c. c.end) (ranks_made end))
    (map (λ l. l.time) (links_of seed count))
    (all_map (λ moment. moment ≤ end) (λ c. c.end) (ranks_made end)
    (each_rank end (λ c. c.end ≤ end) (λ rank low. omega arith)))
    (all_map (λ moment. moment ≤ end) (λ l. l.time) (links_of seed count) (links-in_time seed count))

pub end-is : (seed count : ℕ)
    → generated_end seed count ≡ fold max 0 (last_moments (trace_of_bundles seed count))
end-is seed count =
    greatest_is (generated_end seed count) (drop 1 (last_moments (trace_of_bundles seed count)))
    (moments-within seed count)
