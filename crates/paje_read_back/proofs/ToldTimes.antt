-- No time of a trace that has a canonical text is past the greatest.
use Rattle.std.proofs.Common.{◌≤◌, drop}
use Rattle.std.proofs.Common.{arith}
use Rattle.std.specs.List.{AllByRecursion, zip}
use Rattle.std.proofs.lemmas.List.Elements.{recursion_from_All}
use Rattle.list_lemmas.proofs.Each.{all_both, all_dropped, all_enumerated, all_mapped, all_right, all_unmap}
use Rattle.trace_base.specs.Stream.{IsLegal, time_of}
use Rattle.trace_base.specs.declared.limits.TheConstants.{MAX_TIME}
use Rattle.trace_base.specs.declared.messages.LinkEvent.{LinkEvent}
use Rattle.trace_base.specs.declared.names.Container.{Container}
use Rattle.trace_base.specs.declared.stream.TrackStream.{TrackStream}
use Rattle.trace_base.specs.declared.text.TraceText.{TraceText}
use Rattle.paje_print.specs.Canonical.{HasCanonicalSize, IsCanonical}
use Rattle.paje_print.specs.CanonicalText.{placed_containers}
use Rattle.paje_read_back.proofs.TraceTimes.{ends-within, links-within, moments-by_end, starts-within}

-- ---- containers and link events

abbrev pub LastsInTime : Container → Type 0
LastsInTime c = (c.start ≤ MAX_TIME) × (c.end ≤ MAX_TIME)

pub containers-in_time : (t : TraceText) → IsCanonical t
    → AllByRecursion (λ p. LastsInTime p.1) (placed_containers t)
containers-in_time t c =
    let limit = c.limits.time in
    all_enumerated LastsInTime 1 (drop 1 t.names.containers) (all_dropped LastsInTime t.names.containers
    (all_mapped (λ c. (c.start ≤ t.names.end) × (c.end ≤ t.names.end)) LastsInTime
    (λ c (start, end). (omega (arith, start, limit), omega (arith, end, limit))) t.names.containers
    (all_both (λ c. c.start ≤ t.names.end) (λ c. c.end ≤ t.names.end) t.names.containers
    (starts-within t c) (ends-within t c))))

-- it comes in time, and its size is one that a text can have
abbrev pub IsWrittenAsIs : LinkEvent → Type 0
IsWrittenAsIs l = (l.time ≤ MAX_TIME) × HasCanonicalSize l

pub links-in_time : (t : TraceText) → IsCanonical t → AllByRecursion IsWrittenAsIs t.links
links-in_time t c =
    let limit = c.limits.time in
    all_mapped (λ l. (l.time ≤ t.names.end) × HasCanonicalSize l) IsWrittenAsIs
    (λ l (time, size). (omega (arith, time, limit), size)) t.links
    (all_both (λ l. l.time ≤ t.names.end) HasCanonicalSize t.links (links-within t c)
    (recursion_from_All HasCanonicalSize t.links c.sizes))

-- ---- the tracks

abbrev pub StreamsInTime : TrackStream → Type 0
StreamsInTime s = (s.start ≤ MAX_TIME) × AllByRecursion (λ event. time_of event ≤ MAX_TIME) s.events

streams-in_time : (s : TrackStream) → IsLegal s → StreamsInTime s
streams-in_time s legal =
    let each = moments-by_end s legal in
    let limit = legal.in_time in (
      omega (arith, each.0, limit),
      all_mapped (λ e. time_of e ≤ s.end) (λ e. time_of e ≤ MAX_TIME) (λ e is. omega (arith, is, limit))
          s.events (all_unmap (λ x. x ≤ s.end) time_of s.events each.1),
    )

pub tracks-in_time : (t : TraceText) → IsCanonical t
    → AllByRecursion (λ p. StreamsInTime p.1) (zip t.names.tracks t.tracks)
tracks-in_time t c = all_right StreamsInTime t.names.tracks t.tracks
    (all_mapped IsLegal StreamsInTime streams-in_time t.tracks
    (recursion_from_All IsLegal t.tracks c.legal))
