-- What the lines of a canonical text tell.
use Rattle.std.proofs.Common.{◌≡◌, ℕ, ◌+◌, ◌≤◌, List, [], ◌∷◌, ◌++◌, filter_map, map, length, None, is_some}
use Rattle.std.proofs.Common.{◌∙◌, ap, arith}
use Rattle.std.specs.List.{All, AllByRecursion, AllZip, enumerate_from, find, flat_map, zip}
use Rattle.std.specs.Option.{option_and_then, option_or}
use Rattle.std.proofs.lemmas.List.{length-map, map-append}
use Rattle.std.proofs.lemmas.List.Elements.{filter_map-append, recursion_from_All}
use Rattle.std.proofs.lemmas.List.Folds.{find-append}
use Rattle.list_lemmas.proofs.Maps.{enumerate-append}
use Rattle.trace_base.specs.Stream.{time_of}
use Rattle.trace_base.specs.declared.limits.TheConstants.{MAX_TIME}
use Rattle.trace_base.specs.declared.names.Track.{Track}
use Rattle.trace_base.specs.declared.stream.TrackStream.{TrackStream}
use Rattle.trace_base.specs.declared.text.TraceText.{TraceText}
use Rattle.paje_defs.specs.Lines.{begun_in}
use Rattle.paje_defs.specs.Refusals.{first_refused, placed, placed_behind, when}
use Rattle.paje_defs.proofs.RefusedMore.{none_refused}
use Rattle.paje_lines.specs.Examples.{Unnumbered}
use Rattle.paje_lines.specs.Reasons.{event_reason_at, event_refusal}
use Rattle.paje_print.specs.Canonical.{IsCanonical}
use Rattle.paje_print.specs.CanonicalText.{canonical_lines, canonical_text, create_line, destroy_line}
use Rattle.paje_print.specs.CanonicalText.{event_lines_written, link_line, link_type_line}
use Rattle.paje_print.specs.CanonicalText.{placed_containers, process_type_line, state_line}
use Rattle.paje_print.specs.CanonicalText.{state_type_line, track_lines}
use Rattle.paje_print.specs.WrittenEvents.{definitions_written}
use Rattle.paje_print.specs.WrittenWords.{WrittenLine, line_text}
use Rattle.paje_reader.specs.LineReasons.{definition_lines, event_line_at, event_lines, line_why}
use Rattle.paje_reader.specs.TextLines.{TextLine, lines_in, reading, tells, text_line}
use Rattle.paje_reader.specs.TextSaid.{end_refusal, lines_refusal, refusal_at, text_refusal}
use Rattle.paje_reader.specs.declared.why.Why.TheVariants as why
use Rattle.paje_read_back.specs.ToldLines.{containers_told, create_told, destroy_told, ends_told}
use Rattle.paje_read_back.specs.ToldLines.{first_told, link_told, link_type_told, links_told}
use Rattle.paje_read_back.specs.ToldLines.{process_type_told, state_told, state_type_told, states_told}
use Rattle.paje_read_back.specs.ToldLines.{told_lines, track_told, types_told}
use Rattle.paje_read_back.proofs.DefinedLines.{definitions_text, lines-defined, written_from}
use Rattle.paje_read_back.proofs.DefinedText.{defined-tell_nothing, defined-unrefused}
use Rattle.paje_read_back.proofs.NumberedLines.{placed-append}
use Rattle.paje_read_back.proofs.ToldBehind.{ReadsWords, begun-behind, stands-behind, told-behind}
use Rattle.paje_read_back.proofs.ToldBehind.{unrefused-behind}
use Rattle.paje_read_back.proofs.ToldKinds.{Tells, create-tells, destroy-tells, link-tells, link_type-tells}
use Rattle.paje_read_back.proofs.ToldKinds.{process_type-tells, reset-tells, state-tells, state_type-tells}
use Rattle.paje_read_back.proofs.ToldTimes.{IsWrittenAsIs, LastsInTime, StreamsInTime, containers-in_time}
use Rattle.paje_read_back.proofs.ToldTimes.{links-in_time, tracks-in_time}
use Rattle.paje_read_back.proofs.WordBytes.{words_of}

-- ---- lines beside what they tell

beside-append : (lines more : List WrittenLine) (told later : List Unnumbered) → AllZip Tells lines told
    → AllZip Tells more later → AllZip Tells (lines ++ more) (told ++ later)
beside-append [] more [] later are then = then
beside-append [] more (t ∷ told) later are then = absurd are
beside-append (line ∷ lines) more [] later are then = absurd are
beside-append (line ∷ lines) more (t ∷ told) later (is, are) then = (
  is,
  beside-append lines more told later are then,
)

beside-map : {X : Type 0} (P : X → Type 0) (line : X → WrittenLine) (told : X → Unnumbered)
    → ((x : X) → P x → Tells (line x) (told x)) → (xs : List X) → AllByRecursion P xs
    → AllZip Tells (map line xs) (map told xs)
beside-map P line told each [] all = tt
beside-map P line told each (x ∷ xs) (is, all) = (each x is, beside-map P line told each xs all)

beside-map_all : {X : Type 0} (line : X → WrittenLine) (told : X → Unnumbered)
    → ((x : X) → Tells (line x) (told x)) → (xs : List X) → AllZip Tells (map line xs) (map told xs)
beside-map_all line told each [] = tt
beside-map_all line told each (x ∷ xs) = (each x, beside-map_all line told each xs)

beside-flat_map : {X : Type 0} (P : X → Type 0) (lines : X → List WrittenLine) (told : X → List Unnumbered)
    → ((x : X) → P x → AllZip Tells (lines x) (told x)) → (xs : List X) → AllByRecursion P xs
    → AllZip Tells (flat_map lines xs) (flat_map told xs)
beside-flat_map P lines told each [] all = tt
beside-flat_map P lines told each (x ∷ xs) (is, all) =
    beside-append (lines x) (flat_map lines xs) (told x) (flat_map told xs) (each x is)
    (beside-flat_map P lines told each xs all)

track-tells : (functions : List (List ℕ)) (p : Track × TrackStream) → StreamsInTime p.1
    → AllZip Tells (track_lines functions p) (track_told functions p)
track-tells functions p fits = (
  reset-tells p.0 p.1.start fits.0,
  beside-map (λ event. time_of event ≤ MAX_TIME) (state_line functions p.0) (state_told functions p.0)
      (state-tells functions p.0) p.1.events fits.1,
)

-- the event lines, in one row
abbrev events_told : TraceText → List Unnumbered
events_told t = types_told t ++ containers_told t ++ states_told t ++ links_told t ++ ends_told t

abbrev types_written : TraceText → List WrittenLine
types_written t = process_type_line ∷ map state_type_line (enumerate_from 0 t.names.kinds)
    ++ map link_type_line (enumerate_from 0 t.names.link_kinds)

types-tell : (t : TraceText) → AllZip Tells (types_written t) (types_told t)
types-tell t =
    let kinds = enumerate_from 0 t.names.kinds in
    let link_kinds = enumerate_from 0 t.names.link_kinds in
    beside-append (process_type_line ∷ map state_type_line kinds) (map link_type_line link_kinds)
    (process_type_told ∷ map state_type_told kinds) (map link_type_told link_kinds)
    (process_type-tells, beside-map_all state_type_line state_type_told state_type-tells kinds)
    (beside-map_all link_type_line link_type_told link_type-tells link_kinds)

containers-tell : (t : TraceText) → IsCanonical t
    → AllZip Tells (map create_line (placed_containers t)) (containers_told t)
containers-tell t c = beside-map (λ p. LastsInTime p.1) create_line create_told
    (λ p fits. create-tells p fits.0) (placed_containers t) (containers-in_time t c)

states-tell : (t : TraceText) → IsCanonical t
    → AllZip Tells (flat_map (track_lines t.names.functions) (zip t.names.tracks t.tracks)) (states_told t)
states-tell t c = beside-flat_map (λ p. StreamsInTime p.1) (track_lines t.names.functions)
    (track_told t.names.functions) (track-tells t.names.functions) (zip t.names.tracks t.tracks)
    (tracks-in_time t c)

links-tell : (t : TraceText) → IsCanonical t → AllZip Tells (map link_line t.links) (links_told t)
links-tell t c = beside-map IsWrittenAsIs link_line link_told (λ l fits. link-tells l fits.0 fits.1) t.links
    (links-in_time t c)

ends-tell : (t : TraceText) → IsCanonical t
    → AllZip Tells (map destroy_line (placed_containers t)) (ends_told t)
ends-tell t c = beside-map (λ p. LastsInTime p.1) destroy_line destroy_told
    (λ p fits. destroy-tells p fits.1) (placed_containers t) (containers-in_time t c)

written-tell : (t : TraceText) → IsCanonical t → AllZip Tells (event_lines_written t) (events_told t)
written-tell t c =
    let to_types = types_written t in
    let to_containers = to_types ++ map create_line (placed_containers t) in
    let to_states = to_containers
    ++ flat_map (track_lines t.names.functions) (zip t.names.tracks t.tracks) in
    let told = types_told t ++ containers_told t in
    beside-append (to_states ++ map link_line t.links) (map destroy_line (placed_containers t))
    (told ++ states_told t ++ links_told t) (ends_told t)
    (beside-append to_states (map link_line t.links) (told ++ states_told t) (links_told t)
    (beside-append to_containers _ told (states_told t)
    (beside-append to_types _ (types_told t) (containers_told t) (types-tell t) (containers-tell t c))
    (states-tell t c)) (links-tell t c)) (ends-tell t c)

-- ---- the text

-- how its lines are cut, and what the words of each event line are
abbrev IsCutAsWritten : TraceText → Type 0
IsCutAsWritten t = lines_in (canonical_text t)
    ≡ map text_line (enumerate_from 1 (map line_text (canonical_lines t)))

abbrev ReadsAsWritten : TraceText → Type 0
ReadsAsWritten t = All (λ line. (n : ℕ) → reading (text_line (n, line_text line)) ≡ tells (words_of line))
    (event_lines_written t)

-- its event lines
abbrev events_text : TraceText → List TextLine
events_text t = written_from first_told (event_lines_written t)

split_text : (t : TraceText) → written_from 1 (canonical_lines t) ≡ definitions_text ++ events_text t
split_text t =
    let before = map line_text definitions_written in
    let behind = map line_text (event_lines_written t) in
    ap (λ texts. map text_line (enumerate_from 1 texts))
    (map-append line_text definitions_written (event_lines_written t))
    ∙ (ap (map text_line) (enumerate-append 1 before behind)
    ∙ (map-append text_line (enumerate_from 1 before) (enumerate_from (1 + length before) behind)
    ∙ ap (λ n. definitions_text ++ map text_line (enumerate_from n behind))
    (omega (arith, length-map definitions_written line_text))))

lines_split : (t : TraceText) → IsCutAsWritten t
    → lines_in (canonical_text t) ≡ definitions_text ++ events_text t
lines_split t cut = cut ∙ split_text t

pub lines-tell : (t : TraceText) → IsCanonical t → IsCutAsWritten t → ReadsAsWritten t
    → event_lines (lines_in (canonical_text t)) ≡ told_lines t
unfolding told_lines
lines-tell t c cut read =
    ap event_lines (lines_split t cut)
    ∙ (ap (filter_map event_line_at) (placed-append [] definitions_text (events_text t))
    ∙ (filter_map-append event_line_at (placed definitions_text)
    (placed_behind definitions_text (events_text t))
    ∙ (ap (λ lines. lines ++ filter_map event_line_at (placed_behind definitions_text (events_text t)))
    defined-tell_nothing
    ∙ told-behind definitions_text first_told (event_lines_written t) (events_told t) lines-defined
    (recursion_from_All ReadsWords (event_lines_written t) read) (written-tell t c))))

none_refused-text : (t : TraceText) → IsCanonical t → ReadsAsWritten t
    → first_refused event_reason_at (told_lines t) ≡ None
    → first_refused line_why (definitions_text ++ events_text t) ≡ None
unfolding told_lines
none_refused-text t c read none =
    ap (find (λ p. is_some (line_why p))) (placed-append [] definitions_text (events_text t))
    ∙ (find-append (λ p. is_some (line_why p)) (placed definitions_text)
    (placed_behind definitions_text (events_text t))
    ∙ (ap (λ first. option_or first (find (λ p. is_some (line_why p))
    (placed_behind definitions_text (events_text t)))) defined-unrefused
    ∙ unrefused-behind definitions_text [] first_told (event_lines_written t) (events_told t) lines-defined
    defined-tell_nothing (recursion_from_All ReadsWords (event_lines_written t) read) (written-tell t c)
    none))

begun-text : (t : TraceText) → ReadsAsWritten t
    → begun_in (definition_lines (definitions_text ++ events_text t)) ≡ None
begun-text t read = begun-behind (definitions_text ++ events_text t)
    (stands-behind definitions_text first_told (event_lines_written t) lines-defined
    (recursion_from_All ReadsWords (event_lines_written t) read))

none_in_all : (lines : List TextLine) → first_refused line_why lines ≡ None
    → begun_in (definition_lines lines) ≡ None → lines_refusal lines ≡ None
none_in_all lines none ended =
    ap (λ first. option_or (option_and_then refusal_at first) (end_refusal lines)) none
    ∙ ap (λ begun. when (is_some begun) (record { line = length lines + 1; why = why.Unended })) ended

pub text-unrefused : (t : TraceText) → IsCanonical t → IsCutAsWritten t → ReadsAsWritten t
    → event_refusal (told_lines t) ≡ None → text_refusal (canonical_text t) ≡ None
text-unrefused t c cut read unrefused =
    ap lines_refusal (lines_split t cut)
    ∙ none_in_all (definitions_text ++ events_text t)
    (none_refused-text t c read (none_refused event_reason_at (told_lines t) unrefused))
    (begun-text t read)
