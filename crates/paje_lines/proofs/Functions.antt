-- The functions that the lines of a trace enter are within the limit.
use Rattle.std.proofs.Common.{◌≡◌, ℕ, ◌<◌, ◌≤◌, List, [], ◌∷◌, ◌++◌, Bool, true, false, not, cond}
use Rattle.std.proofs.Common.{Option, Some, None, filter_map, length, refl, sym, ◌∙◌, ap, subst}
use Rattle.std.proofs.Common.{arith}
use Rattle.std.specs.List.{list_any}
use Rattle.std.specs.Option.{option_map_or, option_to_list}
use Rattle.std.specs.Str.{bytes_eq}
use Rattle.std.proofs.lemmas.Bool.{true≢false}
use Rattle.std.proofs.lemmas.List.{append-nil, length-append}
use Rattle.std.proofs.lemmas.Slice.Eq.{bytes_eq-Decides}
use Rattle.list_lemmas.proofs.Options.{cond_given}
use Rattle.trace_base.specs.declared.limits.TheConstants.{MAX_FUNCTIONS}
use Rattle.paje_defs.specs.declared.event_name.EventName.{EventName}
use Rattle.paje_defs.specs.declared.event_name.EventName.TheVariants as events
use Rattle.paje_defs.specs.Refusals.{placed}
use Rattle.paje_defs.proofs.PlacedMore.{told-more}
use Rattle.paje_defs.proofs.RefusedMore.{Keeps, unrefused}
use Rattle.paje_lines.specs.declared.what.What.TheVariants as what
use Rattle.paje_lines.specs.EventLine.{EventLine, enters, is_state_event}
use Rattle.paje_lines.specs.Found.{distinct_by}
use Rattle.paje_lines.specs.States.{entered_text, functions_entered}
use Rattle.paje_lines.specs.Reasons.{met, full, is_new_function, event_reason_at, event_refusal}
use Rattle.paje_lines.proofs.DifferentTexts.{different-push}
use Rattle.paje_lines.proofs.NoReason.{room}
use Rattle.paje_lines.proofs.DistinctItems.{new_among}
use Rattle.paje_lines.proofs.StateEvents.{meets, is_met}

-- what enters a call is a state event
pub entering : (event : EventName) → enters event ≡ true → is_state_event event ≡ true
entering events.PushState is = refl
entering events.SetState is = refl
entering _ is = absurd (true≢false (sym is))

-- the functions after one more line
pub functions-more : (lines : List EventLine) (line : EventLine) (o : Option (List ℕ))
    → entered_text (record { before = lines; line = line }) ≡ o → functions_entered (lines ++ line ∷ [])
    ≡ distinct_by bytes_eq (filter_map entered_text (placed lines) ++ option_to_list o)
functions-more lines line o is =
    ap (distinct_by bytes_eq) (told-more entered_text lines line
    ∙ ap (λ o. filter_map entered_text (placed lines) ++ option_to_list o) is)

function_room : (before : List EventLine) (line : EventLine) (text : List ℕ)
    → event_reason_at (record { before = before; line = line }) ≡ None
    → entered_text (record { before = before; line = line }) ≡ Some text
    → list_any (bytes_eq text) (functions_entered before) ≡ false
    → length (functions_entered before) < MAX_FUNCTIONS
function_room before line text none is new =
    let m = meets before line none (entering line.event (((cond_given (enters line.event) _ text is).0))) in
    let fresh : is_new_function before line ≡ true =
    ap (λ o. option_map_or (λ text. not (list_any (bytes_eq text) (functions_entered before))) o false) is
    ∙ ap not new in
    room what.Functions (length (functions_entered before))
    (subst (λ b. cond b (full what.Functions (length (functions_entered before))) None ≡ None) fresh
    (is_met line (met before line m.track) m.none).functions)

abbrev AreWithin : List (List ℕ) → Type 0
AreWithin functions = length functions ≤ MAX_FUNCTIONS

functions_more : Keeps event_reason_at (λ lines. AreWithin (functions_entered lines))
functions_more before line none is holds =
    by (entered_text (record { before = before; line = line })) refl
  where
    by_test : (text : List ℕ) (b : Bool) → entered_text (record { before = before; line = line }) ≡ Some text
        → list_any (λ x. bytes_eq x text) (filter_map entered_text (placed before)) ≡ b
        → AreWithin (distinct_by bytes_eq (filter_map entered_text (placed before)) ++ cond b [] (text ∷ []))
    by_test text true at e = subst AreWithin (sym (append-nil (functions_entered before))) holds
    by_test text false at e =
        let below = function_room before line text is at
        (new_among bytes_eq bytes_eq-Decides (filter_map entered_text (placed before)) text e) in
        let more = length-append (functions_entered before) (text ∷ []) in
        omega (arith, below, more)

    by : (o : Option (List ℕ)) → entered_text (record { before = before; line = line }) ≡ o
        → AreWithin (functions_entered (before ++ line ∷ []))
    by None at = subst AreWithin (sym (functions-more before line None at
        ∙ ap (distinct_by bytes_eq) (append-nil (filter_map entered_text (placed before))))) holds
    by (Some text) at = subst AreWithin (sym (functions-more before line (Some text) at
        ∙ different-push bytes_eq (filter_map entered_text (placed before)) text))
        (by_test text (list_any (λ x. bytes_eq x text) (filter_map entered_text (placed before))) at refl)

pub functions_within : (lines : List EventLine) → event_refusal lines ≡ None
    → length (functions_entered lines) ≤ MAX_FUNCTIONS
functions_within lines none = unrefused event_reason_at (λ lines. AreWithin (functions_entered lines))
    functions_more (omega arith) lines none
