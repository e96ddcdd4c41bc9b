-- What stands at an index of a list.
use Rattle.std.proofs.Common.{List, None, Some, [], ap, ap₂, arith, get_or, inl, inr, length}
use Rattle.std.proofs.Common.{length-append, refl, replicate, set, slice_get, slice_index, slice_set, subst}
use Rattle.std.proofs.Common.{suc, sym, take, zero, ℕ, ◌++◌, ◌+◌, ◌-◌, ◌<◌, ◌∙◌, ◌∷◌, ◌≡◌, ◌≢◌, ◌≤◌, ◌⊎◌}
use Rattle.std.proofs.lemmas.List.{get_or_at, get_or_default, set-get_or, set-set, set_comm}
use Rattle.std.proofs.lemmas.Option.{get_or_from_slice_get, none-some, same_Some, slice_get-get_or}
use Rattle.std.specs.Option.{option_map}

pub slice_get-append_left : {X : Type 0} (xs ys : List X) (k : ℕ) → k < length xs
    → slice_get (xs ++ ys) k ≡ slice_get xs k
slice_get-append_left [] ys k lt = absurd (omega arith)
slice_get-append_left (x ∷ xs) ys zero lt = refl
slice_get-append_left (x ∷ xs) ys (suc k) lt = slice_get-append_left xs ys k (omega arith)

pub slice_get-append_right : {X : Type 0} (xs ys : List X) (k at : ℕ) → length xs + k ≡ at
    → slice_get (xs ++ ys) at
    ≡ slice_get ys k
slice_get-append_right [] ys k at is = ap (slice_get ys) (omega (arith, is))
slice_get-append_right (x ∷ xs) ys k zero is = absurd (omega (arith, is))
slice_get-append_right (x ∷ xs) ys k (suc at) is = slice_get-append_right xs ys k at (omega (arith, is))

pub slice_get-last : {X : Type 0} (xs : List X) (y : X) → slice_get (xs ++ y ∷ []) (length xs) ≡ Some y
slice_get-last [] y = refl
slice_get-last (x ∷ xs) y = slice_get-last xs y

pub slice_get-before_last : {X : Type 0} (xs : List X) (y : X) (j : ℕ) → (j ≡ length xs → ⊥)
    → slice_get (xs ++ y ∷ []) j ≡ slice_get xs j
slice_get-before_last [] y zero apart = absurd (apart refl)
slice_get-before_last [] y (suc j) apart = refl
slice_get-before_last (x ∷ xs) y zero apart = refl
slice_get-before_last (x ∷ xs) y (suc j) apart = slice_get-before_last xs y j (λ e. apart (ap suc e))

pub slice_get-middle : {X : Type 0} (before rest : List X) (x : X) (n : ℕ) → length before ≡ n
    → slice_get (before ++ x ∷ rest) n ≡ Some x
slice_get-middle [] rest x zero is = refl
slice_get-middle [] rest x (suc n) is = absurd (omega (arith, is))
slice_get-middle (y ∷ before) rest x zero is = absurd (omega (arith, is))
slice_get-middle (y ∷ before) rest x (suc n) is = slice_get-middle before rest x n (omega (arith, is))

pub slice_get-take : {X : Type 0} (n : ℕ) (xs : List X) (k : ℕ) → k < n
    → slice_get (take n xs) k ≡ slice_get xs k
slice_get-take zero [] k lt = refl
slice_get-take (suc n) [] k lt = refl
slice_get-take zero (x ∷ xs) k lt = absurd (omega arith)
slice_get-take (suc n) (x ∷ xs) zero lt = refl
slice_get-take (suc n) (x ∷ xs) (suc k) lt = slice_get-take n xs k (omega arith)

-- an item stays where it is in a list that goes on
pub slice_get-more : {X : Type 0} (xs more : List X) (i : ℕ) (x : X) → slice_get xs i ≡ Some x
    → slice_get (xs ++ more) i ≡ Some x
slice_get-more [] more i x is = absurd (cc)
slice_get-more (y ∷ ys) more zero x is = is
slice_get-more (y ∷ ys) more (suc i) x is = slice_get-more ys more i x is

-- a list of one item again and again has nothing else
pub slice_get-replicate : {X : Type 0} (n k : ℕ) (x y : X) → slice_get (replicate n x) k ≡ Some y → x ≡ y
slice_get-replicate zero k x y at = absurd cc
slice_get-replicate (suc n) zero x y at = same_Some x y at
slice_get-replicate (suc n) (suc k) x y at = slice_get-replicate n k x y at

pub past_end : {X : Type 0} (xs : List X) (k : ℕ) → slice_get xs k ≡ None → length xs ≤ k
past_end [] k e = omega arith
past_end (x ∷ xs) zero e = absurd (none-some x (sym e))
past_end (x ∷ xs) (suc k) e = let later = past_end xs k e in omega (arith, later)

pub before_end : {X Y : Type 0} (f : X → Y) (xs : List X) (k : ℕ) (y : Y)
    → option_map f (slice_get xs k) ≡ Some y → k < length xs
before_end f [] k y e = absurd (none-some y e)
before_end f (x ∷ xs) zero y e = omega arith
before_end f (x ∷ xs) (suc k) y e = let later = before_end f xs k y e in omega (arith, later)

-- an item of a list with one more, and of a list with one changed
pub last_or_before : {X : Type 0} (xs : List X) (y : X) (j : ℕ) (z : X) → slice_get (xs ++ y ∷ []) j ≡ Some z
    → (slice_get xs j ≡ Some z) ⊎ ((j ≡ length xs) × (z ≡ y))
last_or_before [] y zero z at = inr (refl, cc)
last_or_before [] y (suc j) z at = absurd cc
last_or_before (x ∷ xs) y zero z at = inl at
last_or_before (x ∷ xs) y (suc j) z at =
    elim (last_or_before xs y j z at) [ inl front ↦ inl front | inr end ↦ inr (omega (arith, end.0), end.1) ]

pub slice_get-set : {X : Type 0} (xs : List X) (i : ℕ) (x y : X) → slice_get xs i ≡ Some x
    → slice_get (slice_set xs i y) i ≡ Some y
slice_get-set [] i x y at = absurd (none-some x at)
slice_get-set (z ∷ xs) zero x y at = refl
slice_get-set (z ∷ xs) (suc i) x y at = slice_get-set xs i x y at

-- what stands where it was put
pub slice_get-set_within : {X : Type 0} (xs : List X) (i : ℕ) (y : X) → i < length xs
    → slice_get (set xs i y) i ≡ Some y
slice_get-set_within [] i y lt = absurd (omega arith)
slice_get-set_within (x ∷ xs) zero y lt = refl
slice_get-set_within (x ∷ xs) (suc i) y lt = slice_get-set_within xs i y (omega arith)

pub slice_get-set_else : {X : Type 0} (xs : List X) (i j : ℕ) (y : X) → (j ≡ i → ⊥)
    → slice_get (slice_set xs i y) j ≡ slice_get xs j
slice_get-set_else [] i j y apart = refl
slice_get-set_else (z ∷ xs) zero zero y apart = absurd (apart refl)
slice_get-set_else (z ∷ xs) zero (suc j) y apart = refl
slice_get-set_else (z ∷ xs) (suc i) zero y apart = refl
slice_get-set_else (z ∷ xs) (suc i) (suc j) y apart = slice_get-set_else xs i j y (λ e. apart (ap suc e))

-- what stands elsewhere
pub slice_get-set_other : {X : Type 0} (xs : List X) (i k : ℕ) (y : X) → i ≢ k
    → slice_get (set xs i y) k ≡ slice_get xs k
slice_get-set_other [] i k y ne = refl
slice_get-set_other (x ∷ xs) zero zero y ne = absurd (ne refl)
slice_get-set_other (x ∷ xs) zero (suc k) y ne = refl
slice_get-set_other (x ∷ xs) (suc i) zero y ne = refl
slice_get-set_other (x ∷ xs) (suc i) (suc k) y ne = slice_get-set_other xs i k y (λ e. ne (ap suc e))

-- what is at a place after it was set there
pub slice_get-set_is : {X : Type 0} (xs : List X) (i j : ℕ) (x y z : X) → slice_get xs i ≡ Some x → j ≡ i
    → slice_get (slice_set xs i y) j ≡ Some z → y ≡ z
slice_get-set_is xs i j x y z at same is =
    same_Some y z (sym (slice_get-set xs i x y at) ∙ ap (slice_get (slice_set xs i y)) (sym same) ∙ is)

-- what stood there, put back, changes nothing
pub set_same : {X : Type 0} → (xs : List X) (i : ℕ) (x : X) → slice_get xs i ≡ Some x → slice_set xs i x ≡ xs
set_same xs i x at =
    subst (λ y. slice_set xs i y ≡ xs) (get_or_from_slice_get xs i x x at) (set-get_or xs i x)

-- two places of a list are written, and then the first of them once more
pub set_again : {X : Type 0} (xs : List X) (i j : ℕ) (p q r : X) → i ≢ j
    → set (set (set xs i p) j q) i r ≡ set (set xs i r) j q
set_again xs i j p q r apart =
    set_comm (set xs i p) j i q r (λ e. apart (sym e)) ∙ ap (λ ys. set ys j q) (set-set xs i p r)

-- two places of a list, of which each is written twice
pub set_twice : {X : Type 0} (xs : List X) (i j : ℕ) (p q r s : X) → i ≢ j
    → set (set (set (set xs i p) j q) j r) i s ≡ set (set xs i s) j r
set_twice xs i j p q r s apart =
    ap (λ ys. set ys i s) (set-set (set xs i p) j q r) ∙ set_again xs i j p r s apart

-- what is read from a list that was taken out is what stood there
pub read_is : {X : Type 0} → (xs ys : List X) (i : ℕ) (x y : X) → slice_get xs i ≡ Some x → ys ≡ xs
    → y ≡ get_or ys i y → x ≡ y
read_is {X = X} xs ys i x y at same is =
    sym (get_or_from_slice_get xs i x y at) ∙ ap (λ (l : List X). get_or l i y) (sym same) ∙ sym is

-- the item of a list, each part of which is read on its own
pub read_parts : {X Y : Type 0} (xs : List (X × Y)) (i : ℕ) (d d' : X × Y) → i < length xs
    → slice_get xs i ≡ Some ((get_or xs i d).0, (get_or xs i d').1)
read_parts xs i d d' within =
    slice_get-get_or xs i d within ∙ ap (λ z. Some ((get_or xs i d).0, z.1)) (get_or_default xs i d d' within)

-- what an item that is read at an index becomes is what becomes of the list there
pub changed_at : {X : Type 0} (Becomes : X → X → Type 0) (xs items ys : List X) (i j : ℕ) (here after : X)
    → items ≡ xs → j ≡ i → here ≡ get_or items j here → ys ≡ slice_set items j after → Becomes here after
    → (before : X) → slice_get xs i ≡ Some before → (x : X) × Becomes before x × (ys ≡ slice_set xs i x)
changed_at {X} Becomes xs items ys i j here after same at read now becomes before there =
    let place : slice_get items j ≡ Some before =
    ap (slice_get items) at ∙ ap (λ (l : List X). slice_get l i) same ∙ there in
    let is : here ≡ before = read ∙ get_or_from_slice_get items j before here place in (
      after,
      subst (λ (x : X). Becomes x after) is becomes,
      now ∙ ap (λ (l : List X). slice_set l j after) same ∙ ap (λ (n : ℕ). slice_set xs n after) at,
    )

pub lists_same : {X : Type 0} (xs ys : List X) → ((k : ℕ) → slice_get xs k ≡ slice_get ys k) → xs ≡ ys
lists_same [] [] same = refl
lists_same [] (y ∷ ys) same = absurd (none-some y (same 0))
lists_same (x ∷ xs) [] same = absurd (none-some x (sym (same 0)))
lists_same (x ∷ xs) (y ∷ ys) same = ap₂ (λ z zs. z ∷ zs) (same_Some x y (same 0))
    (lists_same xs ys (λ k. same (suc k)))

pub slice_index-last : (q : List ℕ) (f : ℕ) → slice_index (q ++ f ∷ []) (length (q ++ f ∷ []) - 1) ≡ f
slice_index-last q f = get_or_at q f [] 0 (length (q ++ f ∷ []) - 1) (omega (arith, length-append q (f ∷ [])))

pub item_within : {A : Type 0} (done left : List A) (a : A) (all : List A) → done ++ a ∷ left ≡ all
    → length done < length all
item_within done left a all is =
    let count = ap length is in
    let joined = length-append done (a ∷ left) in
    omega (arith, count, joined)
