-- Where the lines of a track stand among what a canonical text tells, and which tracks the lines
-- around it are on.
use Rattle.std.proofs.Common.{◌≡◌, ℕ, ◌+◌, List, [], ◌∷◌, ◌++◌, flat_map, filter_map}
use Rattle.std.proofs.Common.{length, false, Option, refl, sym, ◌∙◌}
use Rattle.std.proofs.Common.{ap, ap₂, subst, zip}
use Rattle.std.specs.List.{AllByRecursion}
use Rattle.std.proofs.lemmas.List.{append-nil, append_assoc}
use Rattle.std.proofs.lemmas.List.Concat.{flat_map-append}
use Rattle.std.proofs.lemmas.List.Elements.{filter_map-append}
use Rattle.list_lemmas.proofs.Each.{all_append, any_made}
use Rattle.trace_base.specs.Info.{NamesExisting}
use Rattle.trace_base.specs.declared.names.Container.{Container}
use Rattle.trace_base.specs.declared.names.Track.{Track}
use Rattle.trace_base.specs.declared.stream.TrackStream.{TrackStream}
use Rattle.trace_base.specs.declared.text.TraceText.{TraceText}
use Rattle.paje_defs.specs.Refusals.{Placed, placed, placed_behind}
use Rattle.paje_lines.specs.EventLine.{EventLine}
use Rattle.paje_lines.specs.Examples.{Unnumbered, from}
use Rattle.paje_lines.specs.States.{is_on, is_same}
use Rattle.paje_print.specs.CanonicalText.{placed_containers}
use Rattle.paje_read_back.specs.ToldLines.{containers_told, declarations_told, destroy_told}
use Rattle.paje_read_back.specs.ToldLines.{ends_told, first_told, link_told}
use Rattle.paje_read_back.specs.ToldLines.{links_told, states_told}
use Rattle.paje_read_back.specs.ToldLines.{told_lines, track_told, types_told}
use Rattle.paje_read_back.proofs.DeclaredParts.{first_state}
use Rattle.paje_read_back.proofs.FindsNames.{DeclaresNothing, KeepsFinding, finds-later}
use Rattle.paje_read_back.proofs.LineKinds.{IsLinkLine, IsNoState, link_event, link_facts}
use Rattle.paje_read_back.proofs.LineKinds.{states-declare_nothing, track_is, tracks_are}
use Rattle.paje_read_back.proofs.NumberedLines.{all_numbered, from-append, placed-append}
use Rattle.paje_read_back.proofs.TracksBlocks.{block-on, each-on, same-on}

-- ---- the parts of the told lines

-- the state lines of some tracks
abbrev pub lines_of_tracks : TraceText → List (Track × TrackStream) → List Unnumbered
lines_of_tracks t pairs = flat_map (track_told t.names.functions) pairs

-- the declarations, the state lines of these tracks, and more lines
abbrev pub told_until : TraceText → List (Track × TrackStream) → List Unnumbered → List EventLine
told_until t pairs rest = declarations_told t ++ from (first_state t) (lines_of_tracks t pairs ++ rest)

-- what comes behind the state lines of all tracks
abbrev pub rest_told : TraceText → List Unnumbered
rest_told t = links_told t ++ ends_told t

pub told_all : (t : TraceText) → told_lines t ≡ told_until t (zip t.names.tracks t.tracks) (rest_told t)
unfolding told_lines
told_all t =
    let declared : List Unnumbered = types_told t ++ containers_told t in
    ap (from first_told) (append_assoc (declared ++ states_told t) (links_told t) (ends_told t)
    ∙ append_assoc declared (states_told t) (rest_told t))
    ∙ from-append first_told declared (states_told t ++ rest_told t)

-- what they tell, where only state lines tell something
pub told_by_states : {Y : Type 0} (f : Placed EventLine → Option Y) (t : TraceText)
    (pairs : List (Track × TrackStream)) (rest : List Unnumbered)
    → filter_map f (placed (declarations_told t)) ≡ []
    → ((before : List EventLine) (n : ℕ) → filter_map f (placed_behind before (from n rest)) ≡ [])
    → filter_map f (placed (told_until t pairs rest))
    ≡ filter_map f (placed_behind (declarations_told t) (from (first_state t) (lines_of_tracks t pairs)))
told_by_states f t pairs rest none nothing =
    ap (λ ls. filter_map f (placed (declared ++ ls))) (from-append (first_state t) (lines_of_tracks t pairs)
    rest)
    ∙ (ap (filter_map f) (placed-append [] declared (states ++ later)
    ∙ ap (λ ps. placed declared ++ ps) (placed-append declared states later))
    ∙ (filter_map-append f (placed declared) (placed_behind declared states ++ placed_behind
    (declared ++ states) later)
    ∙ ap₂ (λ xs ys. xs ++ ys) none
    (filter_map-append f (placed_behind declared states) (placed_behind (declared ++ states) later)
    ∙ (ap (λ xs. filter_map f (placed_behind declared states) ++ xs)
    (nothing (declared ++ states) (first_state t + length (lines_of_tracks t pairs)))
    ∙ append-nil (filter_map f (placed_behind declared states))))))
  where
    declared : List EventLine
    declared = declarations_told t

    states : List EventLine
    states = from (first_state t) (lines_of_tracks t pairs)

    later : List EventLine
    later = from (first_state t + length (lines_of_tracks t pairs)) rest

-- ---- around one track

-- the lines before those of a track, where these tracks come before it
abbrev pub before_track : TraceText → List (Track × TrackStream) → List EventLine
before_track t front = declarations_told t ++ from (first_state t) (lines_of_tracks t front)

-- the number of its first line
abbrev pub track_number : TraceText → List (Track × TrackStream) → ℕ
track_number t front = first_state t + length (lines_of_tracks t front)

abbrev pub lines_of_track : TraceText → List (Track × TrackStream) → Track × TrackStream → List EventLine
lines_of_track t front p = from (track_number t front) (track_told t.names.functions p)

-- the lines behind its last, where these tracks come behind it, and then more lines
abbrev pub after_track : TraceText → List (Track × TrackStream) → Track × TrackStream
    → List (Track × TrackStream) → List Unnumbered → List EventLine
after_track t front p back rest = from (track_number t front + length (track_told t.names.functions p))
    (lines_of_tracks t back ++ rest)

pub told_around : (t : TraceText) (front : List (Track × TrackStream)) (p : Track × TrackStream)
    (back : List (Track × TrackStream)) (rest : List Unnumbered) → told_until t (front ++ p ∷ back) rest
    ≡ (before_track t front ++ lines_of_track t front p) ++ after_track t front p back rest
told_around t front p back rest =
    ap (λ ls. declarations_told t ++ ls) numbered
    ∙ (sym (append_assoc (declarations_told t) firsts (own ++ after_track t front p back rest))
    ∙ sym (append_assoc (before_track t front) own (after_track t front p back rest)))
  where
    told : Track × TrackStream → List Unnumbered
    told q = track_told t.names.functions q

    firsts : List EventLine
    firsts = from (first_state t) (lines_of_tracks t front)

    own : List EventLine
    own = lines_of_track t front p

    parted : lines_of_tracks t (front ++ p ∷ back) ++ rest
        ≡ lines_of_tracks t front ++ (told p ++ (lines_of_tracks t back ++ rest))
    parted = ap (λ ls. ls ++ rest) (flat_map-append told front (p ∷ back))
        ∙ (append_assoc (lines_of_tracks t front) (told p ++ lines_of_tracks t back) rest
        ∙ ap (λ ls. lines_of_tracks t front ++ ls) (append_assoc (told p) (lines_of_tracks t back) rest))

    numbered : from (first_state t) (lines_of_tracks t (front ++ p ∷ back) ++ rest)
        ≡ firsts ++ (own ++ after_track t front p back rest)
    numbered = ap (from (first_state t)) parted
        ∙ (from-append (first_state t) (lines_of_tracks t front)
        (told p ++ (lines_of_tracks t back ++ rest))
        ∙ ap (λ ls. firsts ++ ls) (from-append (track_number t front) (told p)
        (lines_of_tracks t back ++ rest)))

-- ---- lines that declare nothing, and lines of no state

pub track_nothing : (t : TraceText) (n : ℕ) (p : Track × TrackStream)
    → AllByRecursion DeclaresNothing (from n (track_told t.names.functions p))
track_nothing t n p = states-declare_nothing (from n (track_told t.names.functions p))
    (track_is t.names.functions p n)

pub tracks_nothing : (t : TraceText) (n : ℕ) (pairs : List (Track × TrackStream))
    → AllByRecursion DeclaresNothing (from n (lines_of_tracks t pairs))
tracks_nothing t n pairs = states-declare_nothing (from n (lines_of_tracks t pairs))
    (tracks_are t.names.functions pairs n)

-- whatever its number is
abbrev pub Always : (EventLine → Type 0) → Unnumbered → Type 0
Always P line = (n : ℕ) → P (line n)

-- behind the state lines
rest-each : (t : TraceText) (P : EventLine → Type 0) → ((line : EventLine) → IsLinkLine line → P line)
    → ((p : ℕ × Container) (n : ℕ) → P (destroy_told p n)) → AllByRecursion (Always P) (rest_told t)
rest-each t P links ends = all_append (Always P) (links_told t) (ends_told t)
    (any_made (Always P) link_told (λ l n. links (link_told l n) (link_event l n l.starts)) t.links)
    (any_made (Always P) destroy_told ends (placed_containers t))

pub rest_nothing : (t : TraceText) → AllByRecursion (Always DeclaresNothing) (rest_told t)
rest_nothing t = rest-each t DeclaresNothing (λ line is. (link_facts line.event is).0) (λ p n. refl)

pub rest_no_state : (t : TraceText) → AllByRecursion (Always IsNoState) (rest_told t)
rest_no_state t = rest-each t IsNoState (λ line is. (link_facts line.event is).1) (λ p n. refl)

-- what comes behind the declarations
pub states_nothing : (t : TraceText) (n : ℕ) (pairs : List (Track × TrackStream)) (rest : List Unnumbered)
    → AllByRecursion (Always DeclaresNothing) rest
    → AllByRecursion DeclaresNothing (from n (lines_of_tracks t pairs ++ rest))
states_nothing t n pairs rest nothing = subst (AllByRecursion DeclaresNothing)
    (sym (from-append n (lines_of_tracks t pairs) rest))
    (all_append DeclaresNothing (from n (lines_of_tracks t pairs))
    (from (n + length (lines_of_tracks t pairs)) rest) (tracks_nothing t n pairs)
    (all_numbered DeclaresNothing (n + length (lines_of_tracks t pairs)) rest nothing))

-- ---- lines of other tracks

pub others_off : (t : TraceText) (track : Track) (pairs : List (Track × TrackStream))
    → AllByRecursion (λ p. NamesExisting t.names p.0) pairs
    → AllByRecursion (λ p. is_same track p.0 ≡ false) pairs
    → (before : List EventLine) (n : ℕ) → KeepsFinding t before
    → AllByRecursion (λ q. is_on track q ≡ false) (placed_behind before (from n (lines_of_tracks t pairs)))
others_off t track [] existing others before n finds = tt
others_off t track (p ∷ pairs) existing others before n finds =
    let own : List EventLine = from n (track_told t.names.functions p) in
    let next : ℕ = n + length (track_told t.names.functions p) in
    let later : List EventLine = from next (lines_of_tracks t pairs) in
    subst (AllByRecursion (λ q. is_on track q ≡ false))
    (sym (ap (placed_behind before) (from-append n (track_told t.names.functions p) (lines_of_tracks t pairs))
    ∙ placed-append before own later))
    (all_append (λ q. is_on track q ≡ false) (placed_behind before own) (placed_behind (before ++ own) later)
    (same-on track p.0 false others.0 (placed_behind before own) (each-on t p.0 before own finds
    (block-on t t.names.functions p.0 p.1.start n p.1.events existing.0)))
    (others_off t track pairs existing.1 others.1 (before ++ own) next
    (finds-later t before own finds (track_nothing t n p))))
