-- What one more state line makes of the tracks, the functions, and the state events of each track.
use Rattle.std.proofs.Common.{◌≡◌, ℕ, ◌+◌, ◌≤◌, ◌<◌, ◌||◌, List, [], ◌∷◌, ◌++◌, Bool, true, false, cond}
use Rattle.std.proofs.Common.{Option, Some, None, IfSome, filter_map, length, map, refl, sym, ap, ap₂, subst}
use Rattle.std.proofs.Common.{◌∙◌, arith}
use Rattle.std.specs.List.{last_or, list_any}
use Rattle.std.specs.Option.{option_map_or}
use Rattle.std.specs.Set.{is_member}
use Rattle.std.specs.Str.{bytes_eq}
use Rattle.std.proofs.lemmas.Bool.{true≢false}
use Rattle.std.proofs.lemmas.List.{append-nil, length-append, map_push}
use Rattle.std.proofs.lemmas.List.Elements.{All-weaker, recursion_from_All}
use Rattle.std.proofs.lemmas.List.Folds.{list_any-append, list_any_none}
use Rattle.std.proofs.lemmas.List.Sums.{sum_by_push}
use Rattle.std.proofs.lemmas.Map.Keys.{IsDistinct-cons}
use Rattle.std.proofs.lemmas.Map.Made.{length-le_from_is_member}
use Rattle.std.proofs.lemmas.Slice.Eq.{bytes_eq-Decides}
use Rattle.list_lemmas.proofs.All.{All-none}
use Rattle.list_lemmas.proofs.Distinct.{TellsSame, distinct_from_apart, same_equivalence, same_swap}
use Rattle.list_lemmas.proofs.Last.{last-push}
use Rattle.trace_base.specs.declared.names.Track.{Track}
use Rattle.paje_defs.specs.Refusals.{placed}
use Rattle.paje_lines.specs.Containers.{container_start}
use Rattle.paje_lines.specs.EventLine.{EventLine, is_state_event}
use Rattle.paje_lines.specs.Found.{distinct_by}
use Rattle.paje_lines.specs.States.{entered_text, functions_entered, is_on, is_same, last_time, states_in}
use Rattle.paje_lines.specs.States.{states_of, track_at, track_named, tracks_in}
use Rattle.paje_lines.proofs.DifferentTexts.{different-push}
use Rattle.paje_lines.proofs.DistinctItems.{distinct_apart, new_among}
use Rattle.paje_lines.proofs.Functions.{functions-more}
use Rattle.paje_legal.proofs.StreamLists.{All-from_distinct}
use Rattle.paje_legal.proofs.StreamTracks.{states-kept}
use Rattle.paje_lines.proofs.Tracks.{tells_track, tracks-more}
use Rattle.paje_lines.proofs.MoreStates.{states-more}

-- ---- different items

-- an item that one of a list equals is one of the different ones
kept_among : {X : Type 0} (same : X → X → Bool) → TellsSame same → (xs : List X) (y : X)
    → list_any (λ x. same x y) xs ≡ true → list_any (same y) (distinct_by same xs) ≡ true
kept_among same tells xs y is = by (list_any (same y) (distinct_by same xs)) refl
  where
    by : (b : Bool) → list_any (same y) (distinct_by same xs) ≡ b → b ≡ true
    by true e = refl
    by false e = sym (list_any_none (λ x. same x y) xs (All-from_distinct same (λ a b. (tells a b).0)
        (λ x. same x y ≡ false) xs (All-weaker (λ x. same y x ≡ false) (λ x. same x y ≡ false)
        (λ x e. same_swap same tells x y ∙ e) (distinct_by same xs)
        (All-none (same y) (distinct_by same xs) e)))) ∙ is

-- ---- tracks

-- the track that a line is on
pub told-track : (before : List EventLine) (line : EventLine) (track : Track)
    → is_state_event line.event ≡ true → track_named before line ≡ Some track
    → track_at (record { before = before; line = line }) ≡ Some track
told-track before line track state named = ap₂ (λ b o. cond b o None) state named

abbrev is_seen : List EventLine → Track → Bool
is_seen before track = list_any (λ x. is_same x track) (filter_map track_at (placed before))

tracks-next : (before : List EventLine) (line : EventLine) (track : Track)
    → track_at (record { before = before; line = line }) ≡ Some track → tracks_in (before ++ line ∷ [])
    ≡ tracks_in before ++ cond (is_seen before track) [] (track ∷ [])
tracks-next before line track at = tracks-more before line (Some track) at
    ∙ different-push is_same (filter_map track_at (placed before)) track

pub tracks-few : (before : List EventLine) (line : EventLine) (track : Track)
    → track_at (record { before = before; line = line }) ≡ Some track
    → length (tracks_in (before ++ line ∷ [])) ≤ length (tracks_in before) + 1
tracks-few before line track at =
    let more = ap length (tracks-next before line track at)
    ∙ length-append (tracks_in before) (cond (is_seen before track) [] (track ∷ [])) in
    let one = by (is_seen before track) in
    omega (arith, more, one)
  where
    by : (b : Bool) → length (cond b [] (track ∷ [])) ≤ 1
    by true = omega arith
    by false = omega arith

-- it is known from then on
pub tracks-known : (before : List EventLine) (line : EventLine) (track : Track)
    → track_at (record { before = before; line = line }) ≡ Some track
    → list_any (is_same track) (tracks_in (before ++ line ∷ [])) ≡ true
tracks-known before line track at =
    ap (list_any (is_same track)) (tracks-next before line track at)
    ∙ (list_any-append (is_same track) (tracks_in before) (cond (is_seen before track) [] (track ∷ []))
    ∙ by (is_seen before track) refl)
  where
    or_true : (b : Bool) → (b || true) ≡ true
    or_true true = refl
    or_true false = refl

    itself : is_same track track ≡ true
    itself = (tells_track track track).1 refl

    by : (b : Bool) → is_seen before track ≡ b → (list_any (is_same track) (tracks_in before)
        || list_any (is_same track) (cond b [] (track ∷ []))) ≡ true
    by true seen = ap (λ b. b || false)
        (kept_among is_same tells_track (filter_map track_at (placed before)) track seen)
    by false new = ap (λ b. list_any (is_same track) (tracks_in before) || (b || false)) itself
        ∙ or_true (list_any (is_same track) (tracks_in before))

-- and more lines on it make no new one
pub tracks-same : (before : List EventLine) (line : EventLine) (track : Track)
    → track_at (record { before = before; line = line }) ≡ Some track
    → list_any (is_same track) (tracks_in before) ≡ true
    → tracks_in (before ++ line ∷ []) ≡ tracks_in before
tracks-same before line track at known = tracks-next before line track at ∙ by (is_seen before track) refl
  where
    by : (b : Bool) → is_seen before track ≡ b
        → tracks_in before ++ cond b [] (track ∷ []) ≡ tracks_in before
    by true seen = append-nil (tracks_in before)
    by false new = absurd (true≢false (sym known
        ∙ new_among is_same tells_track (filter_map track_at (placed before)) track new))

-- ---- state events

pub states-counted : (before : List EventLine) (line : EventLine) → is_state_event line.event ≡ true
    → states_in (before ++ line ∷ []) ≡ states_in before + 1
states-counted before line state = sum_by_push (λ l. cond (is_state_event l.event) 1 0) before line
    ∙ ap (λ b. states_in before + cond b 1 0) state

on-it : (before : List EventLine) (line : EventLine) (track u : Track)
    → track_at (record { before = before; line = line }) ≡ Some track
    → is_on u (record { before = before; line = line }) ≡ is_same u track
on-it before line track u at = ap (λ o. option_map_or (is_same u) o false) at

states-next : (before : List EventLine) (line : EventLine) (track : Track)
    → track_at (record { before = before; line = line }) ≡ Some track → states_of (before ++ line ∷ []) track
    ≡ states_of before track ++ record { before = before; line = line } ∷ []
states-next before line track at = states-more before line track true (on-it before line track track at
    ∙ (tells_track track track).1 refl)

pub states-off : (before : List EventLine) (line : EventLine) (track u : Track)
    → track_at (record { before = before; line = line }) ≡ Some track → is_same u track ≡ false
    → states_of (before ++ line ∷ []) u ≡ states_of before u
states-off before line track u at off = states-kept before line u (on-it before line track u at ∙ off)

pub events-next : (before : List EventLine) (line : EventLine) (track : Track)
    → track_at (record { before = before; line = line }) ≡ Some track
    → map (λ p. p.line.event) (states_of (before ++ line ∷ []) track)
    ≡ map (λ p. p.line.event) (states_of before track) ++ line.event ∷ []
events-next before line track at = ap (map (λ p. p.line.event)) (states-next before line track at)
    ∙ map_push (λ p. p.line.event) (states_of before track) (record { before = before; line = line })

pub last-next : (before : List EventLine) (line : EventLine) (track : Track)
    → track_at (record { before = before; line = line }) ≡ Some track
    → last_time (before ++ line ∷ []) track ≡ line.time
last-next before line track at =
    let start = container_start (before ++ line ∷ []) track.container in
    ap (λ ps. option_map_or (λ p. p.line.time) (last_or None ps) start) (states-next before line track at)
    ∙ ap (λ o. option_map_or (λ p. p.line.time) o start)
    (last-push (states_of before track) (record { before = before; line = line }))

-- ---- functions

-- each of these is one of the functions
abbrev pub AreMembers : List (List ℕ) → List (List ℕ) → Type 0
AreMembers functions texts = (q : List ℕ) → is_member bytes_eq texts q ≡ true
    → is_member bytes_eq functions q ≡ true

joined : (functions xs ys : List (List ℕ)) → AreMembers functions xs → AreMembers functions ys
    → AreMembers functions (xs ++ ys)
joined functions xs ys left right q is =
    by (list_any (bytes_eq q) xs) refl (sym (list_any-append (bytes_eq q) xs ys) ∙ is)
  where
    by : (b : Bool) → list_any (bytes_eq q) xs ≡ b → (b || list_any (bytes_eq q) ys) ≡ true
        → is_member bytes_eq functions q ≡ true
    by true e either = left q e
    by false e either = right q either

one_member : (functions : List (List ℕ)) (text : List ℕ) → is_member bytes_eq functions text ≡ true
    → AreMembers functions (text ∷ [])
one_member functions text member q is = by (bytes_eq q text) refl is
  where
    by : (b : Bool) → bytes_eq q text ≡ b → (b || false) ≡ true → is_member bytes_eq functions q ≡ true
    by true e either = ap (is_member bytes_eq functions) ((bytes_eq-Decides q text).0 e) ∙ member
    by false e either = absurd (true≢false (sym either))

pub members-more : (functions : List (List ℕ)) (before : List EventLine) (line : EventLine)
    → AreMembers functions (functions_entered before)
    → IfSome (entered_text (record { before = before; line = line }))
    (λ text. is_member bytes_eq functions text ≡ true)
    → AreMembers functions (functions_entered (before ++ line ∷ []))
members-more functions before line members one =
    by (entered_text (record { before = before; line = line })) refl one
  where
    by_test : (text : List ℕ) (b : Bool) → is_member bytes_eq functions text ≡ true
        → AreMembers functions (functions_entered before ++ cond b [] (text ∷ []))
    by_test text true one = subst (AreMembers functions) (sym (append-nil (functions_entered before))) members
    by_test text false one = joined functions (functions_entered before) (text ∷ []) members
        (one_member functions text one)

    by : (o : Option (List ℕ)) → entered_text (record { before = before; line = line }) ≡ o
        → IfSome o (λ text. is_member bytes_eq functions text ≡ true)
        → AreMembers functions (functions_entered (before ++ line ∷ []))
    by None at one = subst (AreMembers functions) (sym (functions-more before line None at
        ∙ ap (distinct_by bytes_eq) (append-nil (filter_map entered_text (placed before))))) members
    by (Some text) at one = subst (AreMembers functions) (sym (functions-more before line (Some text) at
        ∙ different-push bytes_eq (filter_map entered_text (placed before)) text))
        (by_test text (list_any (λ x. bytes_eq x text) (filter_map entered_text (placed before))) one)

-- one that isn't entered yet leaves room
pub functions-room : (functions : List (List ℕ)) (before : List EventLine) (text : List ℕ)
    → AreMembers functions (functions_entered before) → is_member bytes_eq functions text ≡ true
    → list_any (bytes_eq text) (functions_entered before) ≡ false
    → length (functions_entered before) < length functions
functions-room functions before text members one new =
    let entered = functions_entered before in
    let fewer : length (text ∷ entered) ≤ length functions =
    length-le_from_is_member (same_equivalence bytes_eq bytes_eq-Decides) (text ∷ entered) functions
    (IsDistinct-cons bytes_eq text entered (recursion_from_All (λ y. bytes_eq text y ≡ false) entered
    (All-none (bytes_eq text) entered new)) (distinct_from_apart bytes_eq entered
    (distinct_apart bytes_eq (filter_map entered_text (placed before)))))
    (joined functions (text ∷ []) entered (one_member functions text one) members) in
    omega (arith, fewer)
