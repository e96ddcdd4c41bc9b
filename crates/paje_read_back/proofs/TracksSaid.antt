-- The tracks that the told lines say.
use Rattle.std.proofs.Common.{◌≡◌, ℕ, ◌+◌, List, [], ◌∷◌, ◌++◌, map, filter, filter_map}
use Rattle.std.proofs.Common.{length, Bool, true, false, not, refl, sym, ◌∙◌}
use Rattle.std.proofs.Common.{ap, subst, zip, drop}
use Rattle.std.specs.List.{AllByRecursion}
use Rattle.std.proofs.lemmas.Bool.{cond-false, not_from_false, not_from_true}
use Rattle.std.proofs.lemmas.List.Elements.{filter_map-append, filter_passes, recursion_from_All}
use Rattle.std.proofs.lemmas.Slice.Zip.{firsts-zip}
use Rattle.list_lemmas.proofs.Distinct.{AreApart, TellsSame, apart_from_places}
use Rattle.list_lemmas.proofs.Each.{all_left, all_mapped}
use Rattle.list_lemmas.proofs.Filters.{filter_every}
use Rattle.trace_base.specs.Info.{NamesExisting}
use Rattle.trace_base.specs.declared.names.Track.{Track}
use Rattle.trace_base.specs.declared.stream.TrackStream.{TrackStream}
use Rattle.trace_base.specs.declared.text.TraceText.{TraceText}
use Rattle.paje_defs.specs.Refusals.{placed_behind}
use Rattle.paje_lines.specs.EventLine.{EventLine}
use Rattle.paje_lines.specs.Examples.{Unnumbered, from}
use Rattle.paje_lines.specs.Found.{distinct_by}
use Rattle.paje_lines.specs.States.{is_same, track_at, tracks_in}
use Rattle.paje_lines.proofs.Tracks.{tells_track}
use Rattle.paje_print.specs.Canonical.{IsCanonical}
use Rattle.paje_read_back.specs.ToldLines.{declarations_told, told_lines, track_told}
use Rattle.paje_read_back.proofs.DeclaredParts.{first_state}
use Rattle.paje_read_back.proofs.FindsNames.{KeepsFinding, finds-later}
use Rattle.paje_read_back.proofs.LineKinds.{IsNoState}
use Rattle.paje_read_back.proofs.NumberedLines.{all_numbered, from-append, placed-append}
use Rattle.paje_read_back.proofs.StatesNone.{no-states_declared, none-on_track}
use Rattle.paje_read_back.proofs.TracksBlocks.{block-on, each-on, tracks-told}
use Rattle.paje_read_back.proofs.TracksTold.{Always, lines_of_tracks, rest_no_state, rest_told, told_all}
use Rattle.paje_read_back.proofs.TracksTold.{told_by_states, told_until, track_nothing}

-- ---- items that differ

-- an item again and again counts once
distinct_repeated : {X Y : Type 0} (same : X → X → Bool) → TellsSame same
    → (x : X) (ys : List Y) (xs : List X)
    → distinct_by same (x ∷ map (λ y. x) ys ++ xs)
    ≡ x ∷ filter (λ z. not (same x z)) (distinct_by same xs)
distinct_repeated same tells x [] xs = refl
distinct_repeated {X} same tells x (y ∷ ys) xs = ap (λ zs. x ∷ filter other zs)
    (distinct_repeated same tells x ys xs)
    ∙ ap (λ zs. x ∷ zs) (cond-false (other x) (x ∷ filter other rest) (filter other rest)
    (not_from_true (same x x) ((tells x x).1 refl))
    ∙ filter_every other rest (recursion_from_All (λ z. other z ≡ true) rest
    (filter_passes other (distinct_by same xs))))
  where
    other : X → Bool
    other z = not (same x z)

    rest : List X
    rest = filter other (distinct_by same xs)

-- ---- the tracks of the state lines

-- the tracks are told in turn
tracks-in_turn : (t : TraceText) (pairs : List (Track × TrackStream))
    → AllByRecursion (λ p. NamesExisting t.names p.0) pairs → AreApart is_same (map (λ p. p.0) pairs)
    → (before : List EventLine) (n : ℕ) → KeepsFinding t before
    → distinct_by is_same (filter_map track_at (placed_behind before (from n (lines_of_tracks t pairs))))
    ≡ map (λ p. p.0) pairs
tracks-in_turn t [] existing apart before n finds = refl
tracks-in_turn t (p ∷ pairs) existing apart before n finds =
    let own : List EventLine = from n (track_told t.names.functions p) in
    let next : ℕ = n + length (track_told t.names.functions p) in
    let later : List EventLine = from next (lines_of_tracks t pairs) in
    let told : List Track = filter_map track_at (placed_behind (before ++ own) later) in
    let parted : placed_behind before (from n (lines_of_tracks t (p ∷ pairs)))
    ≡ placed_behind before own ++ placed_behind (before ++ own) later =
    ap (placed_behind before) (from-append n (track_told t.names.functions p) (lines_of_tracks t pairs))
    ∙ placed-append before own later in
    let mine : filter_map track_at (placed_behind before own) ≡ map (λ q. p.0) (placed_behind before own) =
    tracks-told p.0 (placed_behind before own) (each-on t p.0 before own finds
    (block-on t t.names.functions p.0 p.1.start n p.1.events existing.0)) in
    let theirs : distinct_by is_same told ≡ map (λ p. p.0) pairs = tracks-in_turn t pairs existing.1 apart.1
    (before ++ own) next (finds-later t before own finds (track_nothing t n p)) in
    ap (λ ps. distinct_by is_same (filter_map track_at ps)) parted
    ∙ (ap (distinct_by is_same) (filter_map-append track_at (placed_behind before own)
    (placed_behind (before ++ own) later) ∙ ap (λ ts. ts ++ told) mine)
    ∙ (distinct_repeated is_same tells_track p.0 (drop 1 (placed_behind before own)) told
    ∙ ap (λ ts. p.0 ∷ ts) (ap (filter (λ s. not (is_same p.0 s))) theirs
    ∙ filter_every (λ s. not (is_same p.0 s)) (map (λ p. p.0) pairs)
    (all_mapped (λ s. is_same p.0 s ≡ false) (λ s. not (is_same p.0 s) ≡ true)
    (λ s e. not_from_false (is_same p.0 s) e) (map (λ p. p.0) pairs) apart.0))))

-- ---- the tracks

-- behind the state lines of any tracks that differ
tracks_until : (t : TraceText) (pairs : List (Track × TrackStream)) (rest : List Unnumbered)
    → AllByRecursion (λ p. NamesExisting t.names p.0) pairs → AreApart is_same (map (λ p. p.0) pairs)
    → AllByRecursion (Always IsNoState) rest → KeepsFinding t (declarations_told t)
    → tracks_in (told_until t pairs rest) ≡ map (λ p. p.0) pairs
tracks_until t pairs rest existing apart none finds = ap (distinct_by is_same)
    (told_by_states track_at t pairs rest
    (none-on_track [] (declarations_told t) (no-states_declared t))
    (λ before n. none-on_track before (from n rest) (all_numbered IsNoState n rest none)))
    ∙ tracks-in_turn t pairs existing apart (declarations_told t) (first_state t) finds

-- ---- those of a canonical trace

pub pairs_existing : (t : TraceText) → IsCanonical t
    → AllByRecursion (λ p. NamesExisting t.names p.0) (zip t.names.tracks t.tracks)
pairs_existing t canonical = all_left (NamesExisting t.names) t.names.tracks t.tracks
    (recursion_from_All (NamesExisting t.names) t.names.tracks canonical.existing)

pub first_of_pairs : (t : TraceText) → IsCanonical t
    → map (λ p. p.0) (zip t.names.tracks t.tracks) ≡ t.names.tracks
first_of_pairs t canonical = firsts-zip t.names.tracks t.tracks canonical.streams

pub pairs_apart : (t : TraceText) → IsCanonical t
    → AreApart is_same (map (λ p. p.0) (zip t.names.tracks t.tracks))
pairs_apart t canonical = subst (AreApart is_same) (sym (first_of_pairs t canonical))
    (apart_from_places is_same tells_track t.names.tracks canonical.distinct)

pub tracks-said : (t : TraceText) → IsCanonical t → KeepsFinding t (declarations_told t)
    → tracks_in (told_lines t) ≡ t.names.tracks
tracks-said t canonical finds = ap tracks_in (told_all t)
    ∙ (tracks_until t (zip t.names.tracks t.tracks) (rest_told t) (pairs_existing t canonical)
    (pairs_apart t canonical) (rest_no_state t) finds ∙ first_of_pairs t canonical)
