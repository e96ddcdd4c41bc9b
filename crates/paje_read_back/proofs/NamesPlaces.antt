-- Where the aliases of a canonical text stand among those before them.
use Rattle.std.proofs.Common.{◌≡◌, ℕ, zero, suc, ◌+◌, ◌<◌, ◌≤◌, ◌^◌, ◌==◌, List, ◌∷◌, map}
use Rattle.std.proofs.Common.{position, find, Bool, true, false, cond, Some, None, refl}
use Rattle.std.proofs.Common.{sym}
use Rattle.std.proofs.Common.{◌∙◌, ap, arith, codes, decimal}
use Rattle.std.specs.List.{position_from, range_with_len}
use Rattle.std.specs.Option.{option_or}
use Rattle.std.specs.Str.{bytes_eq}
use Rattle.std.proofs.lemmas.Bool.{true≢false, eqb-true, eqb-false, ne_eqb, false_from_ne_true}
use Rattle.std.proofs.lemmas.Fmt.{decimal_injective}
use Rattle.std.proofs.lemmas.Iterator.Adapters.{position_from-zero}
use Rattle.std.proofs.lemmas.Slice.Eq.{bytes_eq-Decides}
use Rattle.list_lemmas.proofs.Numbers.{above_by}
use Rattle.list_lemmas.proofs.Places.{find_none_from, from-map, from_range-none}
use Rattle.paje_lines.specs.Found.{Entity, entity_place, has_alias, has_name, rooted}
use Rattle.paje_print.specs.WrittenNumbers.{container_alias, link_type_alias, state_type_alias}

-- ---- what a text finds among entities, by their aliases

pub found-by_alias : (es : List Entity) (aliases : List (List ℕ)) (text : List ℕ) (i : ℕ)
    → map (λ e. e.alias) es ≡ aliases → position_from (bytes_eq text) 0 aliases ≡ Some i
    → entity_place es text ≡ Some i
found-by_alias es aliases text i are is = ap (λ o. option_or o (position (has_name text) es))
    (position_from-zero (has_alias text) es ∙ (sym (from-map (bytes_eq text) (λ e. e.alias) 0 es)
    ∙ (ap (position_from (bytes_eq text) 0) are ∙ is)))

pub alias-new : (es : List Entity) (aliases : List (List ℕ)) (text : List ℕ)
    → map (λ e. e.alias) es ≡ aliases → position_from (bytes_eq text) 0 aliases ≡ None
    → find (has_alias text) es ≡ None
alias-new es aliases text are is = find_none_from (has_alias text) 0 es
    (sym (from-map (bytes_eq text) (λ e. e.alias) 0 es) ∙ (ap (position_from (bytes_eq text) 0) are ∙ is))

-- ---- texts of numbers

bytes-same : (text : List ℕ) → bytes_eq text text ≡ true
bytes-same text = (bytes_eq-Decides text text).1 refl

-- different numbers below the limit have different texts
abbrev TellsApart : ℕ → (ℕ → List ℕ) → Type 0
TellsApart limit f = (k m : ℕ) → k < limit → m < limit → f k ≡ f m → k ≡ m

compared : (limit : ℕ) (f : ℕ → List ℕ) → TellsApart limit f → (k m : ℕ) → k < limit → m < limit
    → bytes_eq (f k) (f m) ≡ (k == m)
compared limit f apart k m below under = by (k == m) refl
  where
    by : (b : Bool) → (k == m) ≡ b → bytes_eq (f k) (f m) ≡ b
    by true e = (bytes_eq-Decides (f k) (f m)).1 (ap f (eqb-true k m e))
    by false e = false_from_ne_true (bytes_eq (f k) (f m)) (λ same. eqb-false k m e
        (apart k m below under ((bytes_eq-Decides (f k) (f m)).0 same)))

-- each is found at its place
pub range-finds : (limit : ℕ) (f : ℕ → List ℕ) → TellsApart limit f → (a n k at to : ℕ) → a ≤ k → k < a + n
    → a + n ≤ limit → at + k ≡ a + to
    → position_from (bytes_eq (f k)) at (map f (range_with_len a n)) ≡ Some to
range-finds limit f apart a zero k at to from within below is = absurd (omega (arith, from, within))
range-finds limit f apart a (suc n) k at to from within below is =
    ap (λ b. cond b (Some at) (position_from (bytes_eq (f k)) (at + 1) (map f (range_with_len (a + 1) n))))
    (compared limit f apart k a (omega (arith, within, below)) (omega (arith, below)))
    ∙ by (k == a) refl (λ above. range-finds limit f apart (a + 1) n k (at + 1) to above
    (omega (arith, within)) (omega (arith, below)) (omega (arith, is)))
  where
    by : (b : Bool) → (k == a) ≡ b
        → (a + 1 ≤ k → position_from (bytes_eq (f k)) (at + 1) (map f (range_with_len (a + 1) n)) ≡ Some to)
        → cond b (Some at) (position_from (bytes_eq (f k)) (at + 1) (map f (range_with_len (a + 1) n)))
        ≡ Some to
    by true e later = let same = eqb-true k a e in ap (λ n. Some n) (omega (arith, same, is))
    by false e later = later (above_by k a from (eqb-false k a e))

pub range-new : (limit : ℕ) (f : ℕ → List ℕ) → TellsApart limit f → (a n k at : ℕ) → k ≡ a + n → k < limit
    → position_from (bytes_eq (f k)) at (map f (range_with_len a n)) ≡ None
range-new limit f apart a n k at is below = from_range-none (bytes_eq (f k)) f a n at
    (λ m from within. compared limit f apart k m below (omega (arith, is, within, below))
    ∙ ne_eqb k m (λ same. omega (arith, same, is, within)))

-- ---- the aliases of a canonical text

lettered : (c : ℕ) → TellsApart (2 ^ 64) (λ k. c ∷ decimal k)
lettered c k m below under same =
    let digits : decimal k ≡ decimal m = cc in
    decimal_injective k m below under digits

pub state_types-apart : TellsApart (2 ^ 64) state_type_alias
state_types-apart = lettered 115

pub link_types-apart : TellsApart (2 ^ 64) link_type_alias
link_types-apart = lettered 108

not_zero : (digits : List ℕ) → codes "0" ≡ 99 ∷ digits → ⊥
not_zero digits same = true≢false (sym (bytes-same (codes "0")) ∙ ap (bytes_eq (codes "0")) same)

containers_by : (k m : ℕ) (b c : Bool) → (k == 0) ≡ b → (m == 0) ≡ c
    → (99 ∷ decimal k ≡ 99 ∷ decimal m → k ≡ m)
    → cond b (codes "0") (99 ∷ decimal k) ≡ cond c (codes "0") (99 ∷ decimal m) → k ≡ m
containers_by k m true true e f numbers same = eqb-true k 0 e ∙ sym (eqb-true m 0 f)
containers_by k m true false e f numbers same = absurd (not_zero (decimal m) same)
containers_by k m false true e f numbers same = absurd (not_zero (decimal k) (sym same))
containers_by k m false false e f numbers same = numbers same

pub containers-apart : TellsApart (2 ^ 64) container_alias
containers-apart k m below under same = containers_by k m (k == 0) (m == 0) refl refl
    (lettered 99 k m below under) same

-- none of them is `/`
pub container-rooted : (k : ℕ) → rooted (container_alias k) ≡ container_alias k
container-rooted k = by (k == 0)
  where
    by : (b : Bool) → rooted (cond b (codes "0") (99 ∷ decimal k)) ≡ cond b (codes "0") (99 ∷ decimal k)
    by true = refl
    by false = refl
