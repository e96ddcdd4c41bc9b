-- The functions that are entered, after one more line; their numbers stay.
use Rattle.std.proofs.Common.{◌≡◌, ℕ, ◌+◌, Bool, true, false, cond, ◌||◌, List, [], ◌∷◌, ◌++◌}
use Rattle.std.proofs.Common.{filter, filter_map, length, position, Option, Some, None, IfSome, is_some, refl}
use Rattle.std.proofs.Common.{sym, ap}
use Rattle.std.proofs.Common.{◌∙◌, subst}
use Rattle.std.specs.List.{AllByRecursion, cons_option, flat_map, list_any, position_or_len}
use Rattle.std.specs.Option.{option_map_or, option_to_list}
use Rattle.std.specs.Str.{bytes_eq}
use Rattle.std.proofs.lemmas.List.{append-nil, length_push}
use Rattle.std.proofs.lemmas.Slice.Eq.{bytes_eq-Decides}
use Rattle.std.proofs.lemmas.Bool.{or_right}
use Rattle.list_lemmas.proofs.Found.{any-place}
use Rattle.list_lemmas.proofs.Places.{place_new, place_stays}
use Rattle.trace_base.specs.declared.names.Track.{Track}
use Rattle.trace_base.specs.declared.stream.Event.TheVariants.{Enter}
use Rattle.paje_defs.specs.Refusals.{Placed, placed}
use Rattle.paje_lines.specs.EventLine.{EventLine}
use Rattle.paje_lines.specs.Found.{distinct_by}
use Rattle.paje_lines.specs.States.{entered_text, function_number, functions_entered, is_on, states_of}
use Rattle.paje_lines.specs.Text.{events_at, left_at}
use Rattle.paje_model.specs.declared.function_place.FunctionPlace.{FunctionPlace}
use Rattle.paje_model.specs.declared.function_place.FunctionPlace.TheVariants.{At, New}
use Rattle.paje_model.specs.FunctionPlace.{function_place, text_entered}
use Rattle.paje_defs.proofs.PlacedMore.{told-more}
use Rattle.paje_model.proofs.Different.{any-distinct, distinct-next}

-- ---- the functions, after one more line

-- one that enters no call
pub functions_kept_by : (lines : List EventLine) (line : EventLine)
    → entered_text (record { before = lines; line = line }) ≡ None
    → functions_entered (lines ++ line ∷ []) ≡ functions_entered lines
functions_kept_by lines line none = ap (distinct_by bytes_eq) (told-more entered_text lines line
    ∙ (ap (λ o. filter_map entered_text (placed lines) ++ option_to_list o) none
    ∙ append-nil (filter_map entered_text (placed lines))))

-- one that enters a call of this text
pub functions-more : (lines : List EventLine) (line : EventLine) (text : List ℕ) (o : Option ℕ)
    → entered_text (record { before = lines; line = line }) ≡ Some text
    → position (bytes_eq text) (functions_entered lines) ≡ o
    → functions_entered (lines ++ line ∷ []) ≡ functions_entered lines ++ cond (is_some o) [] (text ∷ [])
functions-more lines line text o is at =
    ap (distinct_by bytes_eq) (told-more entered_text lines line
    ∙ ap (λ o. filter_map entered_text (placed lines) ++ option_to_list o) is)
    ∙ distinct-next bytes_eq bytes_eq-Decides (filter_map entered_text (placed lines)) text o at

-- ---- their numbers

-- the texts that a list of lines enters are among the functions
abbrev AreAmong : List (List ℕ) → List (Placed EventLine) → Type 0
AreAmong functions ps = AllByRecursion (λ p. IfSome (entered_text p) (λ text. list_any
    (bytes_eq text) functions
    ≡ true)) ps

itself : (text : List ℕ) (b : Bool) → (bytes_eq text text || b) ≡ true
itself text b = ap (λ a. a || b) ((bytes_eq-Decides text text).1 refl)

are_among : (functions : List (List ℕ)) (ps : List (Placed EventLine))
    → ((text : List ℕ) → list_any (bytes_eq text) (filter_map entered_text ps) ≡ true
    → list_any (bytes_eq text) functions ≡ true) → AreAmong functions ps
are_among functions [] there = tt
are_among functions (p ∷ ps) there = by (entered_text p) refl there (are_among functions ps)
  where
    by : (o : Option (List ℕ)) → entered_text p ≡ o
        → ((text : List ℕ) → list_any (bytes_eq text) (cons_option o (filter_map entered_text ps)) ≡ true
        → list_any (bytes_eq text) functions ≡ true)
        → (((text : List ℕ) → list_any (bytes_eq text) (filter_map entered_text ps) ≡ true
        → list_any (bytes_eq text) functions ≡ true) → AreAmong functions ps)
        → AreAmong functions (p ∷ ps)
    by None is there later = (
      subst (λ o. IfSome o (λ text. list_any (bytes_eq text) functions ≡ true)) (sym is)
          tt,
      later there,
    )
    by (Some t) is there later = (
      subst (λ o. IfSome o (λ text. list_any (bytes_eq text) functions ≡ true))
          (sym is) (there t (itself t (list_any (bytes_eq t) (filter_map entered_text ps)))),
      later (λ text e. there text (or_right (bytes_eq text t) _ e)),
    )

entered-stays : (functions new : List (List ℕ)) (p : Placed EventLine) (o : Option (List ℕ))
    → IfSome o (λ text. list_any (bytes_eq text) functions ≡ true)
    → option_map_or (λ text. Enter (function_number (functions ++ new) text) p.line.time ∷ []) o []
    ≡ option_map_or (λ text. Enter (function_number functions text) p.line.time ∷ []) o []
entered-stays functions new p None there = refl
entered-stays functions new p (Some text) there = ap (λ n. Enter (n + 1) p.line.time ∷ [])
    (place_stays (bytes_eq text) functions new there)

events-stay : (functions new : List (List ℕ)) (track : Track) (ps : List (Placed EventLine))
    → AreAmong functions ps
    → flat_map (events_at (functions ++ new) track) (filter (is_on track) ps)
    ≡ flat_map (events_at functions track) (filter (is_on track) ps)
events-stay functions new track [] among = refl
events-stay functions new track (p ∷ ps) among = by (is_on track p) (events-stay functions new track ps
    among.1)
  where
    by : (b : Bool) → flat_map (events_at (functions ++ new) track) (filter (is_on track) ps)
        ≡ flat_map (events_at functions track) (filter (is_on track) ps)
        → flat_map (events_at (functions ++ new) track) (cond b (p ∷ filter (is_on track) ps) (filter (is_on
        track) ps))
        ≡ flat_map (events_at functions track) (cond b (p ∷ filter (is_on track) ps) (filter
        (is_on track) ps))
    by true later = ap (λ es. (left_at track p ++ es) ++ flat_map (events_at (functions ++ new) track)
        (filter (is_on track) ps)) (entered-stays functions new p (entered_text p) among.0)
        ∙ ap (λ es. events_at functions track p ++ es) later
    by false later = later

-- the events of the earlier lines, where there are more functions
pub events_numbered : (lines : List EventLine) (new : List (List ℕ)) (track : Track)
    → flat_map (events_at (functions_entered lines ++ new) track) (states_of lines track)
    ≡ flat_map (events_at (functions_entered lines) track) (states_of lines track)
events_numbered lines new track = events-stay (functions_entered lines) new track (placed lines)
    (are_among (functions_entered lines) (placed lines)
    (λ text e. any-distinct bytes_eq bytes_eq-Decides text (filter_map entered_text (placed lines)) ∙ e))

-- ---- a new one

new_by : (o : Option ℕ) → New ≡ option_map_or At o New → o ≡ None
new_by None is = refl
new_by (Some n) is = cc

-- it goes last, so that its number is how many there are
pub new_number : (old new : List (List ℕ)) (place : FunctionPlace) (text : List ℕ) → place ≡ New
    → place ≡ function_place old (text_entered place text) → new ≡ old ++ text ∷ []
    → length new ≡ option_map_or (function_number new) (text_entered place text) 0
new_number old new place text is found more =
    let none : position (bytes_eq text) old ≡ None = new_by (position (bytes_eq text) old)
    (subst (λ p. p ≡ function_place old (text_entered p text)) is found) in
    ap length more ∙ (length_push old text
    ∙ (ap (λ n. n + 1) (sym (ap (position_or_len (bytes_eq text)) more ∙ place_new (bytes_eq text) old text
    (any-place (bytes_eq text) old ∙ ap is_some none) ((bytes_eq-Decides text text).1 refl)))
    ∙ ap (λ p. option_map_or (function_number new) (text_entered p text) 0) (sym is)))
