-- Lines that are told from the items of a list, one behind another.
use Rattle.std.proofs.Common.{◌≡◌, ℕ, ◌+◌, List, [], ◌∷◌, ◌++◌, find, map, filter, filter_map}
use Rattle.std.proofs.Common.{Bool, false, cond, Option, Some, None, refl, sym, ◌∙◌, ap}
use Rattle.std.proofs.Common.{subst}
use Rattle.std.specs.List.{AllByRecursion, cons_option}
use Rattle.std.proofs.lemmas.List.{append-nil, append_assoc}
use Rattle.std.proofs.lemmas.List.Elements.{filter-append, filter_map-append}
use Rattle.paje_defs.specs.Refusals.{Placed, placed, placed_behind}
use Rattle.paje_lines.specs.EventLine.{EventLine}
use Rattle.paje_lines.specs.Examples.{Unnumbered, from}
use Rattle.paje_read_back.proofs.NumberedLines.{placed-append}

-- ---- what each line keeps

-- each item of a list is told behind those before it
abbrev pub Step : {A : Type 0} → (A → Unnumbered) → (List A → List EventLine → Type 0)
    → (Placed EventLine → Type 0) → List A → Type 0
Step {A} told P R all = (done : List A) (a : A) (left : List A) (n : ℕ) (before : List EventLine)
    → done ++ a ∷ left ≡ all → P done before
    → R (record { before = before; line = told a n }) × P (done ++ a ∷ []) (before ++ told a n ∷ [])

walk_from : {A : Type 0} (told : A → Unnumbered) (P : List A → List EventLine → Type 0)
    (R : Placed EventLine → Type 0) (all : List A) → Step told P R all
    → (done left : List A) (n : ℕ) (before : List EventLine) → done ++ left ≡ all → P done before
    → AllByRecursion R (placed_behind before (from n (map told left)))
    × P all (before ++ from n (map told left))
walk_from told P R all step done [] n before is holds = (
  tt,
  subst (P all) (sym (append-nil before)) (subst (λ d. P d before) (sym (append-nil done) ∙ is) holds),
)
walk_from told P R all step done (a ∷ left) n before is holds =
    let here = step done a left n before is holds in
    let later = walk_from told P R all step (done ++ a ∷ []) left (n + 1) (before ++ told a n ∷ [])
    (append_assoc done (a ∷ []) left ∙ is) here.1 in (
      (here.0, later.0),
      subst (P all) (append_assoc before (told a n ∷ []) (from (n + 1) (map told left)))
          later.1,
    )

-- what holds of each line, and what is kept behind them all
pub walk : {A : Type 0} (told : A → Unnumbered) (P : List A → List EventLine → Type 0)
    (R : Placed EventLine → Type 0) (all : List A) → Step told P R all
    → (n : ℕ) (before : List EventLine) → P [] before
    → AllByRecursion R (placed_behind before (from n (map told all)))
    × P all (before ++ from n (map told all))
walk told P R all step n before none = walk_from told P R all step [] all n before refl none

-- ---- lists that lines add nothing to

-- no line is one that passes
abbrev pub NoneIs : (EventLine → Bool) → List EventLine → Type 0
NoneIs p lines = AllByRecursion (λ line. p line ≡ false) lines

pub none-weaker : (p q : EventLine → Bool) → ((line : EventLine) → p line ≡ false → q line ≡ false)
    → (lines : List EventLine) → NoneIs p lines → NoneIs q lines
none-weaker p q weaker [] none = tt
none-weaker p q weaker (l ∷ lines) none = (weaker l none.0, none-weaker p q weaker lines none.1)

pub none-picked : (p : EventLine → Bool) (lines : List EventLine) → NoneIs p lines → filter p lines ≡ []
none-picked p [] none = refl
none-picked p (l ∷ lines) none = ap (λ b. cond b (l ∷ filter p lines) (filter p lines)) none.0
    ∙ none-picked p lines none.1

-- a fact of each line tells nothing
pub none-told : {Y : Type 0} (f : Placed EventLine → Option Y) (p : EventLine → Bool)
    → ((before : List EventLine) (line : EventLine) → p line ≡ false
    → f (record { before = before; line = line }) ≡ None)
    → (before lines : List EventLine) → NoneIs p lines → filter_map f (placed_behind before lines) ≡ []
none-told f p tells before [] none = refl
none-told f p tells before (l ∷ lines) none =
    none_first (f (record { before = before; line = l })) (filter_map f (placed_behind (before ++ l ∷ [])
    lines)) (tells before l none.0) (none-told f p tells (before ++ l ∷ []) lines none.1)
  where
    none_first : {Y : Type 0} (o : Option Y) (ys : List Y) → o ≡ None → ys ≡ []
        → cons_option o ys ≡ []
    none_first o ys first rest = ap (λ o. cons_option o ys) first ∙ rest

-- nor is one found
pub none-found : (q : Placed EventLine → Bool) (p : EventLine → Bool)
    → ((before : List EventLine) (line : EventLine) → p line ≡ false
    → q (record { before = before; line = line }) ≡ false)
    → (before lines : List EventLine) → NoneIs p lines → find q (placed_behind before lines) ≡ None
none-found q p tells before [] none = refl
none-found q p tells before (l ∷ lines) none =
    ap (λ b. cond b (Some (record { before = before; line = l })) (find q (placed_behind (before ++ l ∷ [])
    lines))) (tells before l none.0) ∙ none-found q p tells (before ++ l ∷ []) lines none.1

-- nor picked
none-chosen : (q : Placed EventLine → Bool) (p : EventLine → Bool)
    → ((before : List EventLine) (line : EventLine) → p line ≡ false
    → q (record { before = before; line = line }) ≡ false)
    → (before lines : List EventLine) → NoneIs p lines → filter q (placed_behind before lines) ≡ []
none-chosen q p tells before [] none = refl
none-chosen q p tells before (l ∷ lines) none =
    ap (λ b. cond b (record { before = before; line = l } ∷ filter q (placed_behind (before ++ l ∷ []) lines))
    (filter q (placed_behind (before ++ l ∷ []) lines))) (tells before l none.0)
    ∙ none-chosen q p tells (before ++ l ∷ []) lines none.1

-- ---- then the lists are the same behind them

pub told-same : {Y : Type 0} (f : Placed EventLine → Option Y) (p : EventLine → Bool)
    → ((before : List EventLine) (line : EventLine) → p line ≡ false
    → f (record { before = before; line = line }) ≡ None)
    → (before more : List EventLine) → NoneIs p more
    → filter_map f (placed (before ++ more)) ≡ filter_map f (placed before)
told-same f p tells before more none = ap (filter_map f) (placed-append [] before more)
    ∙ (filter_map-append f (placed before) (placed_behind before more)
    ∙ (ap (λ ys. filter_map f (placed before) ++ ys) (none-told f p tells before more none)
    ∙ append-nil (filter_map f (placed before))))

pub chosen-same : (q : Placed EventLine → Bool) (p : EventLine → Bool)
    → ((before : List EventLine) (line : EventLine) → p line ≡ false
    → q (record { before = before; line = line }) ≡ false)
    → (before more : List EventLine) → NoneIs p more
    → filter q (placed (before ++ more)) ≡ filter q (placed before)
chosen-same q p tells before more none = ap (filter q) (placed-append [] before more)
    ∙ (filter-append q (placed before) (placed_behind before more)
    ∙ (ap (λ ys. filter q (placed before) ++ ys) (none-chosen q p tells before more none)
    ∙ append-nil (filter q (placed before))))

pub picked-same : (p : EventLine → Bool) (before more : List EventLine) → NoneIs p more
    → filter p (before ++ more) ≡ filter p before
picked-same p before more none = filter-append p before more
    ∙ (ap (λ ls. filter p before ++ ls) (none-picked p more none) ∙ append-nil (filter p before))
