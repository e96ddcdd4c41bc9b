-- The streams that the told lines say.
use Rattle.std.proofs.Common.{◌≡◌, ℕ, ◌+◌, List, [], ◌∷◌, ◌++◌, map, flat_map, filter_map, replicate}
use Rattle.std.proofs.Common.{length, zip, refl, sym, ◌∙◌, ap, ap₂, subst}
use Rattle.std.specs.List.{AllByRecursion}
use Rattle.std.specs.Option.{option_map_or}
use Rattle.std.proofs.lemmas.List.{append-nil}
use Rattle.std.proofs.lemmas.List.Elements.{All-from_recursion, recursion_from_All}
use Rattle.std.proofs.lemmas.Slice.Zip.{seconds-zip}
use Rattle.list_lemmas.proofs.Distinct.{AreApart}
use Rattle.list_lemmas.proofs.Each.{all_both, all_mapped, all_parts, all_right, all_second, each_between}
use Rattle.list_lemmas.proofs.Maps.{map-seconds}
use Rattle.trace_base.specs.Info.{NamesExisting}
use Rattle.trace_base.specs.Stream.{IsLegal}
use Rattle.trace_base.specs.declared.names.Track.{Track}
use Rattle.trace_base.specs.declared.stream.Event.{Event}
use Rattle.trace_base.specs.declared.stream.Event.TheVariants.{Enter, Leave}
use Rattle.trace_base.specs.declared.stream.TrackStream.{TrackStream}
use Rattle.trace_base.specs.declared.text.TraceText.{TraceText}
use Rattle.paje_defs.specs.Refusals.{placed_behind}
use Rattle.paje_lines.specs.Containers.{container_end, container_start}
use Rattle.paje_lines.specs.EventLine.{EventLine}
use Rattle.paje_lines.specs.Examples.{from}
use Rattle.paje_lines.specs.States.{function_number, open_behind, open_calls, states_of}
use Rattle.paje_lines.specs.States.{is_same, tracks_in}
use Rattle.paje_lines.specs.Text.{events_at, events_of, track_stream}
use Rattle.paje_print.specs.Canonical.{IsCanonical, SpansItsContainer, function_entered_by}
use Rattle.paje_read_back.specs.ToldLines.{declarations_told, reset_told, state_told, told_lines}
use Rattle.paje_read_back.proofs.DeclaredParts.{first_state}
use Rattle.paje_read_back.proofs.FindsNames.{DeclaresNothing, EndsAsTold, FindsNames, KeepsFinding}
use Rattle.paje_read_back.proofs.FindsNames.{finds-later, finds-now}
use Rattle.paje_read_back.proofs.FunctionNumbers.{IsOneOf, called_known}
use Rattle.paje_read_back.proofs.FunctionsSaid.{AreDifferent, called_in, entered_is, functions-said}
use Rattle.paje_read_back.proofs.FunctionsSaid.{number_found}
use Rattle.paje_read_back.proofs.StreamsBlocks.{Around, finds_at, none_before, open-calls_until, own_states}
use Rattle.paje_read_back.proofs.TracksBlocks.{block, legal_closes}
use Rattle.paje_read_back.proofs.TracksSaid.{first_of_pairs, pairs_apart, pairs_existing, tracks-said}
use Rattle.paje_read_back.proofs.TracksTold.{before_track, lines_of_track, lines_of_tracks, rest_no_state}
use Rattle.paje_read_back.proofs.TracksTold.{rest_nothing, rest_told, states_nothing, told_all, told_until}
use Rattle.paje_read_back.proofs.TracksTold.{track_number}

-- ---- the events of a track's lines

-- each line of an event says that event
events_back : (t : TraceText) (functions : List (List ℕ)) → AreDifferent functions → (track : Track)
    → NamesExisting t.names track → (es : List Event)
    → AllByRecursion (IsOneOf functions) (filter_map function_entered_by es)
    → (before : List EventLine) (n : ℕ)
    → KeepsFinding t before
    → flat_map (events_at functions track) (placed_behind before (from n
    (map (state_told functions track) es)))
    ≡ es
events_back t functions differ track exists [] known before n finds = refl
events_back t functions differ track exists (Enter f time ∷ es) known before n finds =
    let line : EventLine = state_told functions track (Enter f time) n in
    ap₂ (λ xs ys. xs ++ ys)
    (ap (λ o. option_map_or (λ text. Enter (function_number functions text) time ∷ []) o [])
    (entered_is t functions track f time n before exists.1 (finds-now t before finds))
    ∙ ap (λ g. Enter g time ∷ []) (number_found functions differ f known.0))
    (events_back t functions differ track exists es known.1 (before ++ line ∷ []) (n + 1)
    (finds-later t before (line ∷ []) finds (refl, tt)))
events_back t functions differ track exists (Leave time ∷ es) known before n finds =
    let line : EventLine = state_told functions track (Leave time) n in
    ap (λ ys. Leave time ∷ ys) (events_back t functions differ track exists es known (before ++ line ∷ [])
    (n + 1) (finds-later t before (line ∷ []) finds (refl, tt)))

-- and the first line says none, as no call is open
block_back : (t : TraceText) (functions : List (List ℕ)) → AreDifferent functions → (track : Track)
    → NamesExisting t.names track → (es : List Event)
    → AllByRecursion (IsOneOf functions) (filter_map function_entered_by es) → (before : List EventLine)
    (start n : ℕ) → states_of before track ≡ [] → KeepsFinding t before
    → flat_map (events_at functions track) (placed_behind before (from n (block functions track start es)))
    ≡ es
block_back t functions differ track exists es known before start n none finds =
    let line : EventLine = reset_told track start n in
    ap₂ (λ xs ys. (xs ++ []) ++ ys)
    (ap (λ ps. replicate (open_behind (map (λ p. p.line.event) ps)) (Leave start)) none)
    (events_back t functions differ track exists es known (before ++ line ∷ []) (n + 1)
    (finds-later t before (line ∷ []) finds (refl, tt)))

-- ---- what is known of a track and its stream

record IsKnown (t : TraceText) (p : Track × TrackStream) : Type 0 where
  exists : NamesExisting t.names p.0
  spans : SpansItsContainer t.names p
  legal : IsLegal p.1
  called : AllByRecursion (IsOneOf t.names.functions) (called_in p.1)

pairs_known : (t : TraceText) → IsCanonical t → AllByRecursion (IsKnown t) (zip t.names.tracks t.tracks)
pairs_known t canonical = all_mapped Both (IsKnown t) (λ p both. record {
  exists = both.0.0;
  spans = both.0.1;
  legal = both.1.0;
  called = both.1.1;
}) pairs (all_both Names Streams pairs
    (all_both (λ p. NamesExisting t.names p.0) (SpansItsContainer t.names) pairs (pairs_existing t canonical)
    (recursion_from_All (SpansItsContainer t.names) pairs canonical.spans))
    (all_right (λ s. IsLegal s × Called s) t.names.tracks t.tracks (all_both IsLegal Called t.tracks
    (recursion_from_All IsLegal t.tracks canonical.legal)
    (all_parts (IsOneOf t.names.functions) called_in t.tracks (called_known t canonical)))))
  where
    pairs : List (Track × TrackStream)
    pairs = zip t.names.tracks t.tracks

    Called : TrackStream → Type 0
    Called s = AllByRecursion (IsOneOf t.names.functions) (called_in s)

    Names : Track × TrackStream → Type 0
    Names p = NamesExisting t.names p.0 × SpansItsContainer t.names p

    Streams : Track × TrackStream → Type 0
    Streams p = IsLegal p.1 × Called p.1

    Both : Track × TrackStream → Type 0
    Both p = Names p × Streams p

-- ---- the stream of one track

-- behind all told lines
finds_all : (t : TraceText) → KeepsFinding t (declarations_told t) → FindsNames t (told_lines t)
finds_all t finds = subst (FindsNames t) (sym (told_all t))
    (finds (from (first_state t) (lines_of_tracks t (zip t.names.tracks t.tracks) ++ rest_told t))
    (All-from_recursion DeclaresNothing
    (from (first_state t) (lines_of_tracks t (zip t.names.tracks t.tracks) ++ rest_told t))
    (states_nothing t (first_state t) (zip t.names.tracks t.tracks) (rest_told t) (rest_nothing t))))

stream_back : (t : TraceText) → IsCanonical t → KeepsFinding t (declarations_told t)
    → EndsAsTold t (told_lines t) → (front : List (Track × TrackStream)) (p : Track × TrackStream)
    (back : List (Track × TrackStream)) → front ++ p ∷ back ≡ zip t.names.tracks t.tracks
    → track_stream (told_lines t) p.0 ≡ p.1
stream_back t canonical finds ends front p back is =
    ap₂ (λ start end. record { start = start; end = end; events = events_of lines p.0 }) start_is end_is
    ∙ ap (λ es. record { start = p.1.start; end = p.1.end; events = es }) events_are
  where
    lines : List EventLine
    lines = told_lines t

    known : IsKnown t p
    known = (all_second (IsKnown t) front (p ∷ back) (subst (AllByRecursion (IsKnown t)) (sym is)
        (pairs_known t canonical))).0

    around : Around t front p back
    around = record {
      existing = subst (AllByRecursion (λ p. NamesExisting t.names p.0)) (sym is)
          (pairs_existing t canonical);
      apart = subst (λ ps. AreApart is_same (map (λ p. p.0) ps)) (sym is) (pairs_apart t canonical);
    }

    told : lines ≡ told_until t (front ++ p ∷ back) (rest_told t)
    told = told_all t ∙ ap (λ ps. told_until t ps (rest_told t)) (sym is)

    start_is : container_start lines p.0.container ≡ p.1.start
    start_is = (finds_all t finds).starts p.0.container known.spans.0 known.spans.1
        ∙ sym known.spans.2.0

    end_is : container_end lines p.0.container ≡ p.1.end
    end_is = ends p.0.container known.spans.0 known.spans.1 ∙ sym known.spans.2.1

    closed : open_calls lines p.0 ≡ 0
    closed = ap (λ ls. open_calls ls p.0) told
        ∙ (open-calls_until t front p back (rest_told t) around (rest_no_state t) finds
        (legal_closes p.1 known.legal)
        ∙ ap length known.legal.all_closed)

    states_are : states_of lines p.0 ≡ placed_behind (before_track t front) (lines_of_track t front p)
    states_are = ap (λ ls. states_of ls p.0) told
        ∙ own_states t front p back (rest_told t) around (rest_no_state t) finds

    events_are : events_of lines p.0 ≡ p.1.events
    events_are = ap₂ (λ xs ys. xs ++ ys)
        (ap₂ (λ fs ps. flat_map (events_at fs p.0) ps) (functions-said t canonical finds) states_are
        ∙ block_back t t.names.functions canonical.different p.0 known.exists p.1.events known.called
        (before_track t front) p.1.start (track_number t front) (none_before t front p back around finds)
        (finds_at t front finds))
        (ap (λ n. replicate n (Leave (container_end lines p.0.container))) closed)
        ∙ append-nil p.1.events

-- ---- the streams of all

pub streams-said : (t : TraceText) → IsCanonical t → KeepsFinding t (declarations_told t)
    → EndsAsTold t (told_lines t) → map (track_stream (told_lines t)) (tracks_in (told_lines t)) ≡ t.tracks
streams-said t canonical finds ends =
    ap (map (track_stream (told_lines t))) (tracks-said t canonical finds ∙ sym (first_of_pairs t canonical))
    ∙ (map-seconds (track_stream (told_lines t)) (zip t.names.tracks t.tracks)
    (each_between (λ p. track_stream (told_lines t) p.0 ≡ p.1) [] (zip t.names.tracks t.tracks)
    (stream_back t canonical finds ends))
    ∙ seconds-zip t.names.tracks t.tracks canonical.streams)
