-- No time of a trace that has a canonical text is past its end, nor a time of a stream past the stream's end.
use Rattle.std.proofs.Common.{◌≡◌, ◌≤◌, List, [], ◌∷◌, drop, map, slice_get}
use Rattle.std.proofs.Common.{Some, sym, subst, arith}
use Rattle.std.specs.List.{AllByRecursion}
use Rattle.std.proofs.lemmas.List.Elements.{recursion_from_All}
use Rattle.std.proofs.lemmas.Option.{same_Some}
use Rattle.list_lemmas.proofs.Each.{all_both, all_first, all_mapped, all_second, all_unmap}
use Rattle.list_lemmas.proofs.InOrder.{before_last}
use Rattle.list_lemmas.proofs.Sums.{each_below}
use Rattle.trace_base.specs.Stream.{IsLegal, time_of}
use Rattle.trace_base.specs.declared.names.Container.{Container}
use Rattle.trace_base.specs.declared.stream.TrackStream.{TrackStream}
use Rattle.trace_base.specs.declared.text.TraceText.{TraceText}
use Rattle.paje_print.specs.Canonical.{IsCanonical, StartsBeforeItsEnd, last_moments}
use Rattle.paje_print.specs.Canonical.{root_until}

-- the ends of the containers below the root, and the times of the link events
moments-within : (t : TraceText) → IsCanonical t → AllByRecursion (λ n. n ≤ t.names.end) (last_moments t)
moments-within t is = subst (λ end. AllByRecursion (λ n. n ≤ end) (last_moments t)) (sym is.end)
    (each_below 0 (last_moments t))

pub links-within : (t : TraceText) → IsCanonical t → AllByRecursion (λ l. l.time ≤ t.names.end) t.links
links-within t is = all_unmap (λ n. n ≤ t.names.end) (λ l. l.time) t.links
    (all_second (λ n. n ≤ t.names.end) (map (λ c. c.end) (drop 1 t.names.containers))
    (map (λ l. l.time) t.links)
    (moments-within t is))

all-with_root : (P : Container → Type 0) (cs : List Container) (root : Container) → slice_get cs 0 ≡ Some root
    → P root → AllByRecursion P (drop 1 cs) → AllByRecursion P cs
all-with_root P [] root is first all = tt
all-with_root P (c ∷ cs) root is first all = (subst P (sym (same_Some c root is)) first, all)

pub ends-within : (t : TraceText) → IsCanonical t
    → AllByRecursion (λ c. c.end ≤ t.names.end) t.names.containers
ends-within t is = all-with_root (λ c. c.end ≤ t.names.end) t.names.containers (root_until t.names.end)
    is.root
    (omega arith)
    (all_unmap (λ n. n ≤ t.names.end) (λ c. c.end) (drop 1 t.names.containers)
    (all_first (λ n. n ≤ t.names.end) (map (λ c. c.end) (drop 1 t.names.containers))
    (map (λ l. l.time) t.links)
    (moments-within t is)))

pub starts-within : (t : TraceText) → IsCanonical t
    → AllByRecursion (λ c. c.start ≤ t.names.end) t.names.containers
starts-within t is = all_mapped (λ c. StartsBeforeItsEnd c × (c.end ≤ t.names.end))
    (λ c. c.start ≤ t.names.end)
    (λ c (start, end). omega (arith, start, end)) t.names.containers
    (all_both StartsBeforeItsEnd (λ c. c.end ≤ t.names.end) t.names.containers
    (recursion_from_All StartsBeforeItsEnd t.names.containers is.intervals) (ends-within t is))

-- ---- the times of a stream

-- no event comes behind the end of the track
pub moments-by_end : (s : TrackStream) → IsLegal s
    → AllByRecursion (λ n. n ≤ s.end) (s.start ∷ map time_of s.events)
moments-by_end s legal = before_last (s.start ∷ map time_of s.events) s.end legal.in_order
