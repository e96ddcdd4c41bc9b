-- The greatest time of the lines of a canonical text is the end of the trace.
use Rattle.std.proofs.Common.{◌≡◌, ℕ, ◌+◌, ◌≤◌, List, [], ◌∷◌, ◌++◌, drop, fold, length, map, max}
use Rattle.std.proofs.Common.{Bool, true, false, cond, sym, subst, arith}
use Rattle.std.specs.List.{AllByRecursion, enumerate_from, flat_map, zip}
use Rattle.std.proofs.lemmas.List.Elements.{recursion_from_All}
use Rattle.list_lemmas.proofs.Each.{all_append, all_at, all_dropped, all_enumerated, all_first, all_map}
use Rattle.list_lemmas.proofs.Each.{all_mapped, all_second, all_unenumerated}
use Rattle.list_lemmas.proofs.Sums.{greatest_within}
use Rattle.trace_base.specs.Stream.{IsLegal, time_of}
use Rattle.trace_base.specs.declared.messages.LinkEvent.{LinkEvent}
use Rattle.trace_base.specs.declared.names.Container.{Container}
use Rattle.trace_base.specs.declared.names.Track.{Track}
use Rattle.trace_base.specs.declared.stream.Event.{Event}
use Rattle.trace_base.specs.declared.stream.Event.TheVariants.{Enter, Leave}
use Rattle.trace_base.specs.declared.stream.TrackStream.{TrackStream}
use Rattle.trace_base.specs.declared.text.TraceText.{TraceText}
use Rattle.paje_lines.specs.Containers.{greatest}
use Rattle.paje_lines.specs.EventLine.{EventLine}
use Rattle.paje_lines.specs.Examples.{from}
use Rattle.paje_print.specs.Canonical.{IsCanonical, SpansItsContainer, last_moments}
use Rattle.paje_print.specs.CanonicalText.{placed_containers}
use Rattle.paje_lines.proofs.Containers.{each_in_time}
use Rattle.paje_read_back.specs.ToldLines.{containers_told, create_told, declarations_told, destroy_told}
use Rattle.paje_read_back.specs.ToldLines.{end_told, first_told, link_told, link_type_told, links_told}
use Rattle.paje_read_back.specs.ToldLines.{start_told, state_told, state_type_told}
use Rattle.paje_read_back.specs.ToldLines.{states_told, told_lines, track_told, types_told}
use Rattle.paje_read_back.proofs.DeclaredParts.{end_lines, link_lines, state_lines, told-parts}
use Rattle.paje_read_back.proofs.DeclaredUnrefused.{container_lines, declarations-parts, kind_lines}
use Rattle.paje_read_back.proofs.DeclaredUnrefused.{kinds_told, link_kind_lines, link_kinds_told}
use Rattle.paje_read_back.proofs.DeclaredUnrefused.{process_line}
use Rattle.paje_read_back.proofs.NumberedLines.{all_told, all_untold, any_told, from-append}
use Rattle.paje_read_back.proofs.TraceTimes.{ends-within, links-within, moments-by_end, starts-within}

-- ---- the times of the trace are within its end

abbrev IsBy : ℕ → EventLine → Type 0
IsBy end line = line.time ≤ end

-- ---- the times of the tracks

events-within : (functions : List (List ℕ)) (track : Track) (end : ℕ) (events : List Event) (n : ℕ)
    → AllByRecursion (λ time. time ≤ end) (map time_of events)
    → AllByRecursion (IsBy end) (from n (map (state_told functions track) events))
events-within functions track end [] n all = tt
events-within functions track end (Enter f time ∷ events) n all =
    (all.0, events-within functions track end events (n + 1) all.1)
events-within functions track end (Leave time ∷ events) n all =
    (all.0, events-within functions track end events (n + 1) all.1)

-- the stream is legal, and ends within the trace
abbrev EndsBy : ℕ → Track × TrackStream → Type 0
EndsBy end p = IsLegal p.1 × (p.1.end ≤ end)

tracks-within : (functions : List (List ℕ)) (end : ℕ) (ps : List (Track × TrackStream)) (n : ℕ)
    → AllByRecursion (EndsBy end) ps
    → AllByRecursion (IsBy end) (from n (flat_map (track_told functions) ps))
tracks-within functions end [] n all = tt
tracks-within functions end (p ∷ ps) n all =
    let last = all.0.1 in
    let times = all_mapped (λ time. time ≤ p.1.end) (λ time. time ≤ end) (λ time is. omega (arith, is, last))
    (p.1.start ∷ map time_of p.1.events) (moments-by_end p.1 all.0.0) in
    subst (AllByRecursion (IsBy end))
    (sym (from-append n (track_told functions p) (flat_map (track_told functions) ps)))
    (all_append (IsBy end) (from n (track_told functions p)) (from (n + length (track_told functions p))
    (flat_map (track_told functions) ps))
    (times.0, events-within functions p.0 end p.1.events (n + 1) times.1)
    (tracks-within functions end ps (n + length (track_told functions p)) all.1))

each-legal : (xs : List Track) (ss : List TrackStream) → AllByRecursion IsLegal ss
    → AllByRecursion (λ (p : Track × TrackStream). IsLegal p.1) (zip xs ss)
each-legal [] ss all = tt
each-legal (x ∷ xs) [] all = tt
each-legal (x ∷ xs) (s ∷ ss) all = (all.0, each-legal xs ss all.1)

each-ends : (t : TraceText) → IsCanonical t → (ps : List (Track × TrackStream))
    → AllByRecursion (SpansItsContainer t.names) ps
    → AllByRecursion (λ (p : Track × TrackStream). IsLegal p.1) ps
    → AllByRecursion (EndsBy t.names.end) ps
each-ends t is [] spans legal = tt
each-ends t is (p ∷ ps) ((c, at, span), spans) legal =
    let end : c.end ≤ t.names.end = all_at (λ c. c.end ≤ t.names.end) t.names.containers p.0.container c
    (ends-within t is) at in
    let same = span.1 in
    ((legal.0, omega (arith, end, same)), each-ends t is ps spans legal.1)

states-within : (t : TraceText) → IsCanonical t → AllByRecursion (IsBy t.names.end) (state_lines t)
states-within t is = tracks-within t.names.functions t.names.end (zip t.names.tracks t.tracks)
    (first_told + length (types_told t ++ containers_told t))
    (each-ends t is (zip t.names.tracks t.tracks)
    (recursion_from_All (SpansItsContainer t.names) (zip t.names.tracks t.tracks) is.spans)
    (each-legal t.names.tracks t.tracks (recursion_from_All IsLegal t.tracks is.legal)))

-- ---- no line is past the end

links-by_end : (end n : ℕ) (links : List LinkEvent) → AllByRecursion (λ l. l.time ≤ end) links
    → AllByRecursion (IsBy end) (from n (map link_told links))
links-by_end end n links all = all_told (λ l. l.time ≤ end) (IsBy end) link_told
    (λ l n. by l n l.starts) n links all
  where
    by : (l : LinkEvent) (n : ℕ) (b : Bool) → l.time ≤ end
        → (cond b (start_told l) (end_told l) n).time ≤ end
    by l n true is = is
    by l n false is = is

placed-within : (t : TraceText) (P : Container → Type 0) → AllByRecursion P t.names.containers
    → AllByRecursion (λ (p : ℕ × Container). P p.1) (placed_containers t)
placed-within t P all = all_enumerated P 1 (drop 1 t.names.containers) (all_dropped P t.names.containers all)

declarations-within : (t : TraceText) → IsCanonical t
    → AllByRecursion (IsBy t.names.end) (declarations_told t)
declarations-within t is = subst (AllByRecursion (IsBy t.names.end)) (sym (declarations-parts t))
    (all_append (IsBy t.names.end) (process_line t) (kind_lines t ++ link_kind_lines t ++ container_lines t)
    (omega arith, tt)
    (all_append (IsBy t.names.end) (kind_lines t ++ link_kind_lines t) (container_lines t)
    (all_append (IsBy t.names.end) (kind_lines t) (link_kind_lines t)
    (any_told (IsBy t.names.end) state_type_told (λ p n. omega arith) (first_told + 1)
    (enumerate_from 0 t.names.kinds))
    (any_told (IsBy t.names.end) link_type_told (λ p n. omega arith)
    (first_told + 1 + length (kinds_told t)) (enumerate_from 0 t.names.link_kinds)))
    (all_told (λ (p : ℕ × Container). p.1.start ≤ t.names.end) (IsBy t.names.end) create_told
    (λ p n is. is) (first_told + 1 + length (kinds_told t ++ link_kinds_told t)) (placed_containers t)
    (placed-within t (λ c. c.start ≤ t.names.end) (starts-within t is)))))

lines-within : (t : TraceText) → IsCanonical t → AllByRecursion (IsBy t.names.end) (told_lines t)
lines-within t is = subst (AllByRecursion (IsBy t.names.end)) (sym (told-parts t))
    (all_append (IsBy t.names.end) (declarations_told t ++ state_lines t ++ link_lines t) (end_lines t)
    (all_append (IsBy t.names.end) (declarations_told t ++ state_lines t) (link_lines t)
    (all_append (IsBy t.names.end) (declarations_told t) (state_lines t) (declarations-within t is)
    (states-within t is))
    (links-by_end t.names.end (first_told + length (types_told t ++ containers_told t ++ states_told t))
    t.links (links-within t is)))
    (all_told (λ (p : ℕ × Container). p.1.end ≤ t.names.end) (IsBy t.names.end) destroy_told (λ p n is. is)
    (first_told + length (types_told t ++ containers_told t ++ states_told t ++ links_told t))
    (placed_containers t) (placed-within t (λ c. c.end ≤ t.names.end) (ends-within t is))))

-- ---- the end is the time of a line, or 0

links-of_time : (end n : ℕ) (links : List LinkEvent)
    → AllByRecursion (IsBy end) (from n (map link_told links))
    → AllByRecursion (λ l. l.time ≤ end) links
links-of_time end n links all = all_untold (λ l. l.time ≤ end) (IsBy end) link_told
    (λ l n. by l n l.starts) n links all
  where
    by : (l : LinkEvent) (n : ℕ) (b : Bool) → (cond b (start_told l) (end_told l) n).time ≤ end
        → l.time ≤ end
    by l n true is = is
    by l n false is = is

moments-of_lines : (t : TraceText) (end : ℕ) → AllByRecursion (IsBy end) (told_lines t)
    → AllByRecursion (λ n. n ≤ end) (last_moments t)
moments-of_lines t end all =
    let parts = subst (AllByRecursion (IsBy end)) (told-parts t) all in
    let front = all_first (IsBy end) (declarations_told t ++ state_lines t ++ link_lines t) (end_lines t)
    parts
    in
    all_append (λ n. n ≤ end) (map (λ c. c.end) (drop 1 t.names.containers)) (map (λ l. l.time) t.links)
    (all_map (λ n. n ≤ end) (λ c. c.end) (drop 1 t.names.containers)
    (all_unenumerated (λ c. c.end ≤ end) 1 (drop 1 t.names.containers)
    (all_untold (λ (p : ℕ × Container). p.1.end ≤ end) (IsBy end) destroy_told (λ p n is. is)
    (first_told + length (types_told t ++ containers_told t ++ states_told t ++ links_told t))
    (placed_containers t)
    (all_second (IsBy end) (declarations_told t ++ state_lines t ++ link_lines t) (end_lines t) parts))))
    (all_map (λ n. n ≤ end) (λ l. l.time) t.links
    (links-of_time end (first_told + length (types_told t ++ containers_told t ++ states_told t)) t.links
    (all_second (IsBy end) (declarations_told t ++ state_lines t) (link_lines t) front)))

-- the greatest time of the lines is the end of the trace
pub end-said : (t : TraceText) → IsCanonical t → greatest (told_lines t) ≡ t.names.end
end-said t is =
    let below : greatest (told_lines t) ≤ t.names.end = greatest_within 0 t.names.end
    (map (λ l. l.time) (told_lines t)) (omega arith)
    (all_map (λ n. n ≤ t.names.end) (λ l. l.time) (told_lines t) (lines-within t is)) in
    let above : fold max 0 (last_moments t) ≤ greatest (told_lines t) = greatest_within 0
    (greatest (told_lines t)) (last_moments t) (omega arith)
    (moments-of_lines t (greatest (told_lines t)) (each_in_time (told_lines t))) in
    let end = is.end in
    omega (arith, below, above, end)
