-- The first refused line of a list, after one more line; what holds of lists without a refused line.
use Rattle.std.proofs.Common.{◌≡◌, List, [], ◌∷◌, ◌++◌, true, cond, Option, Some, None, IfSome}
use Rattle.std.proofs.Common.{is_some, refl, sym, ◌∙◌, ap, subst}
use Rattle.std.specs.List.{find}
use Rattle.std.specs.Option.{option_and_then, option_or}
use Rattle.std.proofs.lemmas.Bool.{true≢false}
use Rattle.std.proofs.lemmas.List.{append-nil, append_assoc}
use Rattle.list_lemmas.proofs.Found.{find_passes}
use Rattle.paje_defs.specs.Refusals.{Placed, first_refused, placed, placed_behind, refusal}
use Rattle.paje_defs.proofs.PlacedMore.{refused-more}

none_refused_by : {X F : Type 0} (reason : Placed X → Option F) (first : Option (Placed X))
    → IfSome first (λ p. is_some (reason p) ≡ true) → option_and_then reason first ≡ None → first ≡ None
none_refused_by reason None passes e = refl
none_refused_by reason (Some p) passes e = absurd (true≢false (sym passes ∙ ap is_some e))

pub none_refused : {X F : Type 0} (reason : Placed X → Option F) (lines : List X)
    → refusal reason lines ≡ None → first_refused reason lines ≡ None
none_refused reason lines e = none_refused_by reason (first_refused reason lines)
    (find_passes (λ p. is_some (reason p)) (placed lines)) e

-- ---- one more line

-- where none before it is refused
pub first-next : {X F : Type 0} (reason : Placed X → Option F) (lines : List X) (line : X) (why : Option F)
    → first_refused reason lines ≡ None → reason (record { before = lines; line = line }) ≡ why
    → first_refused reason (lines ++ line ∷ [])
    ≡ cond (is_some why) (Some (record { before = lines; line = line })) None
first-next reason lines line why none is =
    refused-more reason lines line
    ∙ (ap (λ first. option_or first (find (λ p. is_some (reason p)) (record { before = lines; line = line }
    ∷ []))) none
    ∙ ap (λ why. cond (is_some why) (Some (record { before = lines; line = line })) None) is)

-- then it is refused where there is a reason, and else not
pub refusal-next : {X F : Type 0} (reason : Placed X → Option F) (lines : List X) (line : X) (why : Option F)
    → refusal reason lines ≡ None → reason (record { before = lines; line = line }) ≡ why
    → refusal reason (lines ++ line ∷ []) ≡ why
refusal-next reason lines line why none is =
    ap (option_and_then reason) (first-next reason lines line why (none_refused reason lines none) is)
    ∙ by why is
  where
    by : (why : Option _) → reason (record { before = lines; line = line }) ≡ why
        → option_and_then reason (cond (is_some why) (Some (record { before = lines; line = line })) None)
        ≡ why
    by None is = refl
    by (Some fault) is = is

-- ---- lists without a refused line

-- what each line keeps that isn't refused
abbrev pub Keeps : {X F : Type 0} → (Placed X → Option F) → (List X → Type 0) → Type 0
Keeps {X} reason P = (before : List X) (line : X) → refusal reason before ≡ None
    → reason (record { before = before; line = line }) ≡ None → P before → P (before ++ line ∷ [])

unrefused_behind : {X F : Type 0} (reason : Placed X → Option F) (P : List X → Type 0) → Keeps reason P
    → (before lines : List X) → refusal reason before ≡ None → P before
    → find (λ p. is_some (reason p)) (placed_behind before lines) ≡ None → P (before ++ lines)
unrefused_behind reason P keeps before [] none holds found = subst P (sym (append-nil before)) holds
unrefused_behind {X} reason P keeps before (line ∷ lines) none holds found =
    by (reason (record { before = before; line = line })) refl found
    (λ is e. unrefused_behind reason P keeps (before ++ line ∷ []) lines
    (refusal-next reason before line None none is) (keeps before line none is holds) e)
  where
    at : Placed X
    at = record { before = before; line = line }

    later : Option (Placed X)
    later = find (λ p. is_some (reason p)) (placed_behind (before ++ line ∷ []) lines)

    by : (why : Option _) → reason at ≡ why → cond (is_some why) (Some at) later ≡ None
        → (reason at ≡ None → later ≡ None → P ((before ++ line ∷ []) ++ lines)) → P (before ++ line ∷ lines)
    by (Some fault) is e more = absurd (true≢false (ap is_some e))
    by None is e more = subst P (append_assoc before (line ∷ []) lines) (more is e)

-- what the empty list has, and each line keeps that isn't refused
pub unrefused : {X F : Type 0} (reason : Placed X → Option F) (P : List X → Type 0) → Keeps reason P → P []
    → (lines : List X) → refusal reason lines ≡ None → P lines
unrefused reason P keeps none lines e = unrefused_behind reason P keeps [] lines refl none
    (none_refused reason lines e)
