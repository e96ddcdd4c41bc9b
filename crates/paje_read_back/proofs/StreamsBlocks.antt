-- The lines of each track of a canonical trace among the told lines.
use Rattle.std.proofs.Common.{◌≡◌, ℕ, ◌+◌, List, [], ◌∷◌, ◌++◌, map, length}
use Rattle.std.proofs.Common.{false, sym, ◌∙◌, ap, subst}
use Rattle.std.specs.List.{AllByRecursion}
use Rattle.list_lemmas.proofs.Distinct.{AreApart, apart_before, apart_behind}
use Rattle.list_lemmas.proofs.Each.{all_append, all_first, all_second}
use Rattle.list_lemmas.proofs.Filters.{filter_none}
use Rattle.trace_base.specs.Info.{NamesExisting}
use Rattle.trace_base.specs.Stream.{stack_after}
use Rattle.trace_base.specs.declared.names.Track.{Track}
use Rattle.trace_base.specs.declared.stream.TrackStream.{TrackStream}
use Rattle.trace_base.specs.declared.text.TraceText.{TraceText}
use Rattle.paje_defs.specs.Refusals.{placed, placed_behind}
use Rattle.paje_lines.specs.EventLine.{EventLine}
use Rattle.paje_lines.specs.Examples.{Unnumbered, from}
use Rattle.paje_lines.specs.States.{is_on, is_same, open_calls, states_of}
use Rattle.paje_lines.proofs.Tracks.{tells_track}
use Rattle.paje_read_back.specs.ToldLines.{declarations_told, track_told}
use Rattle.paje_read_back.proofs.DeclaredParts.{first_state}
use Rattle.paje_read_back.proofs.FindsNames.{KeepsFinding, finds-later}
use Rattle.paje_read_back.proofs.LineKinds.{IsNoState}
use Rattle.paje_read_back.proofs.NumberedLines.{all_numbered, from-append, placed-append}
use Rattle.paje_read_back.proofs.StatesNone.{no-states_declared, off_track}
use Rattle.paje_read_back.proofs.TracksBlocks.{Closes, Starts, open-calls_block, states-kept_behind}
use Rattle.paje_read_back.proofs.TracksBlocks.{states_so_far}
use Rattle.paje_read_back.proofs.TracksTold.{Always, after_track, before_track, lines_of_track}
use Rattle.paje_read_back.proofs.TracksTold.{lines_of_tracks, others_off, told_around, told_until}
use Rattle.paje_read_back.proofs.TracksTold.{track_nothing, track_number, tracks_nothing}

-- ---- the state lines of one track

-- tracks that exist and differ, one of them with these before it and those behind it
pub record Around (t : TraceText) (front : List (Track × TrackStream)) (p : Track × TrackStream)
    (back : List (Track × TrackStream)) : Type 0 where
  pub existing : AllByRecursion (λ p. NamesExisting t.names p.0) (front ++ p ∷ back)
  pub apart : AreApart is_same (map (λ p. p.0) (front ++ p ∷ back))

-- none before its lines is on it
pub none_before : (t : TraceText) (front : List (Track × TrackStream)) (p : Track × TrackStream)
    (back : List (Track × TrackStream)) → Around t front p back → KeepsFinding t (declarations_told t)
    → states_of (before_track t front) p.0 ≡ []
none_before t front p back around finds =
    states-kept_behind p.0 (declarations_told t) (from (first_state t) (lines_of_tracks t front))
    (others_off t p.0 front (all_first (λ p. NamesExisting t.names p.0) front (p ∷ back) around.existing)
    (apart_before is_same tells_track (λ p. p.0) front p back around.apart) (declarations_told t)
    (first_state t) finds)
    ∙ filter_none (is_on p.0) (placed (declarations_told t))
    (off_track p.0 [] (declarations_told t) (no-states_declared t))

-- the names are found behind the lines of the tracks before it
pub finds_at : (t : TraceText) (front : List (Track × TrackStream)) → KeepsFinding t (declarations_told t)
    → KeepsFinding t (before_track t front)
finds_at t front finds = finds-later t (declarations_told t) (from (first_state t) (lines_of_tracks t front))
    finds (tracks_nothing t (first_state t) front)

-- so it may be read line by line from there
starts_at : (t : TraceText) (front : List (Track × TrackStream)) (p : Track × TrackStream)
    (back : List (Track × TrackStream)) → Around t front p back → KeepsFinding t (declarations_told t)
    → Starts t (before_track t front) p.0
starts_at t front p back around finds = record {
  finds = finds_at t front finds;
  exists = (all_second (λ p. NamesExisting t.names p.0) front (p ∷ back) around.existing).0;
  none = none_before t front p back around finds;
}

-- its state events are its own lines
pub own_states : (t : TraceText) (front : List (Track × TrackStream)) (p : Track × TrackStream)
    (back : List (Track × TrackStream)) (rest : List Unnumbered) → Around t front p back
    → AllByRecursion (Always IsNoState) rest → KeepsFinding t (declarations_told t)
    → states_of (told_until t (front ++ p ∷ back) rest) p.0
    ≡ placed_behind (before_track t front) (lines_of_track t front p)
own_states t front p back rest around none finds =
    ap (λ ls. states_of ls p.0) (told_around t front p back rest)
    ∙ (states-kept_behind p.0 (before ++ own) (after_track t front p back rest) later
    ∙ states_so_far t before t.names.functions p.0 p.1.start (track_number t front) p.1.events
    (starts_at t front p back around finds))
  where
    before : List EventLine
    before = before_track t front

    own : List EventLine
    own = lines_of_track t front p

    here : AllByRecursion (λ p. NamesExisting t.names p.0) (p ∷ back)
    here = all_second (λ p. NamesExisting t.names p.0) front (p ∷ back) around.existing

    next : ℕ
    next = track_number t front + length (track_told t.names.functions p)

    others : List EventLine
    others = from next (lines_of_tracks t back)

    last : List EventLine
    last = from (next + length (lines_of_tracks t back)) rest

    later : AllByRecursion (λ q. is_on p.0 q ≡ false)
        (placed_behind (before ++ own) (after_track t front p back rest))
    later = subst (AllByRecursion (λ q. is_on p.0 q ≡ false))
        (sym (ap (placed_behind (before ++ own)) (from-append next (lines_of_tracks t back) rest)
        ∙ placed-append (before ++ own) others last))
        (all_append (λ q. is_on p.0 q ≡ false) (placed_behind (before ++ own) others)
        (placed_behind ((before ++ own) ++ others) last)
        (others_off t p.0 back here.1 (apart_behind is_same (λ p. p.0) front p back around.apart)
        (before ++ own) next (finds-later t before own (finds_at t front finds)
        (track_nothing t (track_number t front) p)))
        (off_track p.0 ((before ++ own) ++ others) last
        (all_numbered IsNoState (next + length (lines_of_tracks t back)) rest none)))

-- as many of its calls are open as its call stack has
pub open-calls_until : (t : TraceText) (front : List (Track × TrackStream)) (p : Track × TrackStream)
    (back : List (Track × TrackStream)) (rest : List Unnumbered) → Around t front p back
    → AllByRecursion (Always IsNoState) rest → KeepsFinding t (declarations_told t) → Closes [] p.1.events
    → open_calls (told_until t (front ++ p ∷ back) rest) p.0 ≡ length (stack_after p.1.events)
open-calls_until t front p back rest around none finds closes =
    open-calls_block (told_until t (front ++ p ∷ back) rest) (before_track t front) t.names.functions p.0
    p.1.start (track_number t front) p.1.events (own_states t front p back rest around none finds) closes
