-- The functions that the told lines enter.
use Rattle.std.proofs.Common.{◌≡◌, ℕ, ◌+◌, ◌-◌, ◌<◌, List, [], ◌∷◌, ◌++◌, map, filter}
use Rattle.std.proofs.Common.{filter_map, flat_map, length, slice_get, get_or, Bool, true, false, not}
use Rattle.std.proofs.Common.{Some, refl, sym, ◌∙◌, ap, ap₂, arith, zip, nat_eq}
use Rattle.std.proofs.Common.{bytes_eq, ◌==◌}
use Rattle.std.specs.List.{AllByRecursion, cons_option, position_or_len, range_with_len}
use Rattle.std.specs.Cmp.Lexicographic.{bytes_decides}
use Rattle.std.specs.Option.{option_map}
use Rattle.std.proofs.lemmas.Bool.{eq-eqb, false_from_ne_true, ne_eqb, true≢false}
use Rattle.std.proofs.lemmas.List.{get_or_default, map-append, same_lists}
use Rattle.std.proofs.lemmas.List.Elements.{filter_map-append}
use Rattle.std.proofs.lemmas.List.FromFn.{get_or-map-range_with_len, length-map-range_with_len}
use Rattle.std.proofs.lemmas.List.Sums.{position_or_len_is}
use Rattle.std.proofs.lemmas.Option.{slice_get-get_or, unwrap_or-slice_get}
use Rattle.std.proofs.lemmas.Slice.Zip.{seconds-zip}
use Rattle.list_lemmas.proofs.Each.{all_mapped}
use Rattle.list_lemmas.proofs.Filters.{filter-map_agree}
use Rattle.list_lemmas.proofs.Maps.{flat_map-seconds}
use Rattle.trace_base.specs.Info.{NamesExisting}
use Rattle.trace_base.specs.declared.names.Track.{Track}
use Rattle.trace_base.specs.declared.stream.Event.{Event}
use Rattle.trace_base.specs.declared.stream.Event.TheVariants.{Enter, Leave}
use Rattle.trace_base.specs.declared.stream.TrackStream.{TrackStream}
use Rattle.trace_base.specs.declared.text.TraceText.{TraceText}
use Rattle.paje_defs.specs.Refusals.{placed_behind}
use Rattle.paje_lines.specs.EventLine.{EventLine}
use Rattle.paje_lines.specs.Examples.{Unnumbered, from}
use Rattle.paje_lines.specs.Found.{distinct_by}
use Rattle.paje_lines.specs.States.{entered_text, function_number, functions_entered}
use Rattle.paje_lines.proofs.DistinctItems.{distinct_all}
use Rattle.paje_lines.specs.Values.{text_among, value_text}
use Rattle.paje_print.specs.Canonical.{IsCanonical, function_entered_by, functions_called}
use Rattle.paje_print.specs.CanonicalText.{text_of_function}
use Rattle.paje_read_back.specs.ToldLines.{declarations_told, reset_told, state_told, told_lines, track_told}
use Rattle.paje_read_back.proofs.DeclaredParts.{first_state}
use Rattle.paje_read_back.proofs.FindsNames.{FindsNames, KeepsFinding, finds-later, finds-now}
use Rattle.paje_read_back.proofs.FunctionNumbers.{IsOneOf, called_known}
use Rattle.paje_read_back.proofs.LineKinds.{IsNoState}
use Rattle.paje_read_back.proofs.NumberedLines.{all_numbered, from-append, placed-append}
use Rattle.paje_read_back.proofs.StatesNone.{no-states_declared, none-entered}
use Rattle.paje_read_back.proofs.TracksSaid.{pairs_existing}
use Rattle.paje_read_back.proofs.TracksTold.{Always, lines_of_tracks, rest_no_state, rest_told, told_all}
use Rattle.paje_read_back.proofs.TracksTold.{told_by_states, told_until, track_nothing}

-- ---- the texts of the functions

-- no two of these texts are the same
abbrev pub AreDifferent : List (List ℕ) → Type 0
AreDifferent functions = (i j : ℕ) (text : List ℕ) → slice_get functions i ≡ Some text
    → slice_get functions j ≡ Some text → i ≡ j

text_is_there : (functions : List (List ℕ)) (f : ℕ) → IsOneOf functions f
    → slice_get functions (f - 1) ≡ Some (text_of_function functions f)
text_is_there functions f known = slice_get-get_or functions (f - 1) [] (omega (arith, known))
    ∙ ap Some (sym (unwrap_or-slice_get functions (f - 1) []))

-- so functions of one text are one
one_function : (functions : List (List ℕ)) → AreDifferent functions → (f g : ℕ) → IsOneOf functions f
    → IsOneOf functions g → text_of_function functions f ≡ text_of_function functions g → f ≡ g
one_function functions differ f g known other same =
    let places : f - 1 ≡ g - 1 = differ (f - 1) (g - 1) (text_of_function functions g)
    (text_is_there functions f known ∙ ap Some same) (text_is_there functions g other) in
    omega (arith, places, known, other)

-- and the texts are the same just where the numbers are
texts_same : (functions : List (List ℕ)) → AreDifferent functions → (f g : ℕ) → IsOneOf functions f
    → IsOneOf functions g
    → bytes_eq (text_of_function functions f) (text_of_function functions g) ≡ nat_eq f g
texts_same functions differ f g known other =
    by (bytes_eq (text_of_function functions f) (text_of_function functions g)) refl
  where
    by : (b : Bool) → bytes_eq (text_of_function functions f) (text_of_function functions g) ≡ b
        → b ≡ nat_eq f g
    by true is = sym (eq-eqb f g (one_function functions differ f g known other
        ((bytes_decides (text_of_function functions f) (text_of_function functions g)).0 is)))
    by false is = sym (ne_eqb f g (λ same. true≢false (sym ((bytes_decides (text_of_function functions f)
        (text_of_function functions g)).1 (ap (text_of_function functions) same)) ∙ is)))

-- the number of a function is found by its text
pub number_found : (functions : List (List ℕ)) → AreDifferent functions → (f : ℕ) → IsOneOf functions f
    → function_number functions (text_of_function functions f) ≡ f
number_found functions differ f known =
    let place : position_or_len (bytes_eq (text_of_function functions f)) functions ≡ f - 1 =
    position_or_len_is (bytes_eq (text_of_function functions f)) functions (f - 1) [] (omega (arith, known))
    before (λ within. (bytes_decides (text_of_function functions f) (get_or functions (f - 1) [])).1
    (unwrap_or-slice_get functions (f - 1) [])) in
    omega (arith, place, known)
  where
    before : (k : ℕ) → k < f - 1
        → bytes_eq (text_of_function functions f) (get_or functions k []) ≡ false
    before k early = false_from_ne_true (bytes_eq (text_of_function functions f) (get_or functions k []))
        (λ is. let place : f - 1 ≡ k = differ (f - 1) k (text_of_function functions f)
        (text_is_there functions f known)
        (slice_get-get_or functions k [] (omega (arith, early, known))
        ∙ ap Some (sym ((bytes_decides (text_of_function functions f) (get_or functions k [])).0 is))) in
        absurd (omega (arith, place, early)))

-- the texts of all numbers, in order
texts_all : (functions : List (List ℕ))
    → map (text_of_function functions) (range_with_len 1 (length functions)) ≡ functions
texts_all functions = same_lists (map (text_of_function functions) (range_with_len 1 (length functions)))
    functions (length-map-range_with_len (text_of_function functions) 1 (length functions)) (λ k d within.
    let here : k < length functions = omega (
      arith,
      within,
      length-map-range_with_len (text_of_function functions) 1 (length functions),
    ) in
    let place : k + 1 - 1 ≡ k = omega arith in
    get_or-map-range_with_len (text_of_function functions) 1 (length functions) k (k + 1) d here (omega
    arith)
    ∙ (unwrap_or-slice_get functions (k + 1 - 1) []
    ∙ (ap (λ i. get_or functions i []) place ∙ get_or_default functions k [] d here)))

-- ---- different items of a mapped list

-- where the test on what is made of them tells the same
distinct_made : {X Y : Type 0} (same : X → X → Bool) (equal : Y → Y → Bool) (f : X → Y) (P : X → Type 0)
    → ((x y : X) → P x → P y → equal (f x) (f y) ≡ same x y) → (xs : List X) → AllByRecursion P xs
    → distinct_by equal (map f xs) ≡ map f (distinct_by same xs)
distinct_made same equal f P agree [] all = refl
distinct_made same equal f P agree (x ∷ xs) all =
    ap (λ ys. f x ∷ filter (λ y. not (equal (f x) y)) ys) (distinct_made same equal f P agree xs all.1)
    ∙ ap (λ ys. f x ∷ ys) (filter-map_agree (λ y. not (equal (f x) y)) (λ y. not (same x y)) f
    (distinct_by same xs) (all_mapped P (λ y. not (equal (f x) (f y)) ≡ not (same x y))
    (λ y holds. ap not (agree x y all.0 holds)) (distinct_by same xs) (distinct_all same P xs all.1)))

-- ---- the texts that the lines enter

pub entered_is : (t : TraceText) (functions : List (List ℕ)) (track : Track) (f time n : ℕ)
    (before : List EventLine) → track.kind < length t.names.kinds → FindsNames t before
    → entered_text (record { before = before; line = state_told functions track (Enter f time) n })
    ≡ Some (text_of_function functions f)
entered_is t functions track f time n before exists finds =
    ap (option_map (λ kind. value_text before kind (text_of_function functions f)))
    (finds.kinds track.kind exists)
    ∙ ap (λ vs. Some (text_among (map (λ v. v.entity) (filter (λ v. v.kind == track.kind) vs))
    (text_of_function functions f))) finds.no_values

-- those of one track
entered_of_events : (t : TraceText) (functions : List (List ℕ)) (track : Track) (es : List Event)
    (before : List EventLine) (n : ℕ) → NamesExisting t.names track → KeepsFinding t before
    → filter_map entered_text (placed_behind before (from n (map (state_told functions track) es)))
    ≡ map (text_of_function functions) (filter_map function_entered_by es)
entered_of_events t functions track [] before n exists finds = refl
entered_of_events t functions track (Enter f time ∷ es) before n exists finds =
    ap₂ cons_option (entered_is t functions track f time n before exists.1 (finds-now t before finds))
    (entered_of_events t functions track es (before ++ state_told functions track (Enter f time) n ∷ [])
    (n + 1) exists (finds-later t before (state_told functions track (Enter f time) n ∷ []) finds (refl, tt)))
entered_of_events t functions track (Leave time ∷ es) before n exists finds =
    entered_of_events t functions track es (before ++ state_told functions track (Leave time) n ∷ [])
    (n + 1) exists (finds-later t before (state_told functions track (Leave time) n ∷ []) finds (refl, tt))

-- those of tracks in turn
entered_in_turn : (t : TraceText) (pairs : List (Track × TrackStream))
    → AllByRecursion (λ p. NamesExisting t.names p.0) pairs → (before : List EventLine) (n : ℕ)
    → KeepsFinding t before
    → filter_map entered_text (placed_behind before (from n (lines_of_tracks t pairs)))
    ≡ map (text_of_function t.names.functions)
    (flat_map (λ p. filter_map function_entered_by p.1.events) pairs)
entered_in_turn t [] existing before n finds = refl
entered_in_turn t (p ∷ pairs) existing before n finds =
    let functions : List (List ℕ) = t.names.functions in
    let own : List EventLine = from n (track_told functions p) in
    let next : ℕ = n + length (track_told functions p) in
    let later : List EventLine = from next (lines_of_tracks t pairs) in
    let reset : EventLine = reset_told p.0 p.1.start n in
    ap (filter_map entered_text)
    (ap (placed_behind before) (from-append n (track_told functions p) (lines_of_tracks t pairs))
    ∙ placed-append before own later)
    ∙ (filter_map-append entered_text (placed_behind before own) (placed_behind (before ++ own) later)
    ∙ (ap₂ (λ xs ys. xs ++ ys)
    (entered_of_events t functions p.0 p.1.events (before ++ reset ∷ []) (n + 1) existing.0
    (finds-later t before (reset ∷ []) finds (refl, tt)))
    (entered_in_turn t pairs existing.1 (before ++ own) next
    (finds-later t before own finds (track_nothing t n p)))
    ∙ sym (map-append (text_of_function functions) (filter_map function_entered_by p.1.events)
    (flat_map (λ p. filter_map function_entered_by p.1.events) pairs))))

-- ---- the functions

-- the numbers of the functions that are called in a stream
abbrev pub called_in : TrackStream → List ℕ
called_in s = filter_map function_entered_by s.events

-- behind the state lines of any tracks
functions_until : (t : TraceText) (pairs : List (Track × TrackStream)) (rest : List Unnumbered)
    → AllByRecursion (λ p. NamesExisting t.names p.0) pairs → AllByRecursion (Always IsNoState) rest
    → KeepsFinding t (declarations_told t) → functions_entered (told_until t pairs rest)
    ≡ distinct_by bytes_eq (map (text_of_function t.names.functions) (flat_map (λ p. called_in p.1) pairs))
functions_until t pairs rest existing none finds = ap (distinct_by bytes_eq)
    (told_by_states entered_text t pairs rest
    (none-entered [] (declarations_told t) (no-states_declared t))
    (λ before n. none-entered before (from n rest) (all_numbered IsNoState n rest none))
    ∙ entered_in_turn t pairs existing (declarations_told t) (first_state t) finds)

pub functions-said : (t : TraceText) → IsCanonical t → KeepsFinding t (declarations_told t)
    → functions_entered (told_lines t) ≡ t.names.functions
functions-said t canonical finds =
    let functions : List (List ℕ) = t.names.functions in
    ap functions_entered (told_all t)
    ∙ (functions_until t (zip t.names.tracks t.tracks) (rest_told t) (pairs_existing t canonical)
    (rest_no_state t) finds
    ∙ (ap (λ fs. distinct_by bytes_eq (map (text_of_function functions) fs))
    (flat_map-seconds called_in (zip t.names.tracks t.tracks)
    ∙ ap (flat_map called_in) (seconds-zip t.names.tracks t.tracks canonical.streams))
    ∙ (distinct_made nat_eq bytes_eq (text_of_function functions) (IsOneOf functions)
    (texts_same functions canonical.different) (functions_called t) (called_known t canonical)
    ∙ (ap (map (text_of_function functions)) canonical.numbered ∙ texts_all functions))))
