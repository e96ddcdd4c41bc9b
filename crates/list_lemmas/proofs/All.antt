-- What holds of each item, by `All`.
use Rattle.std.proofs.Common.{All, Bool, Contains, IfSome, List, None, Option, Some, [], arith, cond, false}
use Rattle.std.proofs.Common.{filter, filter_map, find, flat_map, get_or, le_of_suc-le-suc, length, map, not}
use Rattle.std.proofs.Common.{option_to_list, refl, slice_get, subst, suc, sym, true, zero, ℕ, ◌+◌, ◌<◌, ◌∙◌}
use Rattle.std.proofs.Common.{◌∷◌, ◌≡◌}
use Rattle.std.proofs.lemmas.Bool.{or_parts, true≢false}
use Rattle.std.proofs.lemmas.List.Elements.{All-append, All-cons, All-head, All-nil, All-tail, All-weaker}
use Rattle.std.proofs.lemmas.Option.{get_or_from_slice_get, same_Some, slice_get-get_or, slice_get_within}
use Rattle.std.specs.List.{cons_option, last_or, list_any, position_or_len}

-- what holds of an item holds of each of a list of it alone
pub All-one : {X : Type 0} (P : X → Type 0) (x : X) → P x → All P (x ∷ [])
All-one P x holds zero d h = holds
All-one P x holds (suc k) d h = absurd (omega arith)

pub All-two : {X : Type 0} (P : X → Type 0) (x y : X) → P x → P y → All P (x ∷ y ∷ [])
All-two P x y first second = All-cons P x (y ∷ []) first (All-one P y second)

-- it holds of each element, one by one
abbrev pub Each : {X : Type 0} → (X → Type 0) → List X → Type 0
Each P [] = Unit {0}
Each P (x ∷ xs) = P x × Each P xs

-- so it holds of one that the list has
pub Each-at : {X : Type 0} (P : X → Type 0) (xs : List X) (x : X) → Each P xs → Contains xs x → P x
Each-at P [] x each (k, below, is) = absurd (omega (arith, below))
Each-at P (y ∷ ys) x each (zero, below, is) = subst P is each.0
Each-at P (y ∷ ys) x each (suc k, below, is) = Each-at P ys x each.1 (k, le_of_suc-le-suc below, is)

-- and at each index
pub All-from_Each : {X : Type 0} (P : X → Type 0) (xs : List X) → Each P xs → All P xs
All-from_Each P [] each k d below = absurd (omega (arith, below))
All-from_Each P (x ∷ xs) each zero d below = each.0
All-from_Each P (x ∷ xs) each (suc k) d below = All-from_Each P xs each.1 k d (le_of_suc-le-suc below)

-- what holds of each element holds of the one of an index
pub All-at : {X : Type 0} → (P : X → Type 0) (xs : List X) (i : ℕ) (x : X) → All P xs
    → slice_get xs i ≡ Some x → P x
All-at P xs i x all at =
    subst P (get_or_from_slice_get xs i x x at) (all i x (slice_get_within xs i x at))

pub All-gets : {X : Type 0} (P : X → Type 0) (xs : List X) (i : ℕ) → All P xs → IfSome (slice_get xs i) P
All-gets P [] i all = tt
All-gets P (x ∷ xs) zero all = All-head P x xs all
All-gets P (x ∷ xs) (suc i) all = All-gets P xs i (All-tail P x xs all)

-- what holds of each item that is found
pub All-by_place : {X : Type 0} (P : X → Type 0) (xs : List X)
    → ((k : ℕ) (x : X) → slice_get xs k ≡ Some x → P x)
    → All P xs
All-by_place P xs holds k d l = holds k (get_or xs k d) (slice_get-get_or xs k d l)

pub All-option_to_list : {X : Type 0} (P : X → Type 0) (o : Option X) → IfSome o P → All P (option_to_list o)
All-option_to_list P None is = All-nil P
All-option_to_list P (Some x) is = All-cons P x [] is (All-nil P)

pub All-last : {X : Type 0} (P : X → Type 0) (o : Option X) (xs : List X) → IfSome o P → All P xs
    → IfSome (last_or o xs) P
All-last P o [] holds all = holds
All-last P o (x ∷ xs) holds all = All-last P (Some x) xs (All-head P x xs all) (All-tail P x xs all)

pub All-unmap : {X Y : Type 0} (P : Y → Type 0) (f : X → Y) (xs : List X) → All P (map f xs)
    → All (λ x. P (f x)) xs
All-unmap P f [] all = All-nil (λ x. P (f x))
All-unmap P f (x ∷ xs) all = All-cons (λ x. P (f x)) x xs (All-head P (f x) (map f xs) all)
    (All-unmap P f xs (All-tail P (f x) (map f xs) all))

pub All-unfilter : {X : Type 0} (P : X → Type 0) (p : X → Bool) (xs : List X) → All P (filter p xs)
    → All (λ x. p x ≡ true → P x) xs
All-unfilter P p [] all = All-nil (λ x. p x ≡ true → P x)
All-unfilter {X} P p (x ∷ xs) all = by (p x) refl all (λ later. All-unfilter P p xs later)
  where
    Holds : X → Type 0
    Holds x = p x ≡ true → P x

    by : (b : Bool) → p x ≡ b → All P (cond b (x ∷ filter p xs) (filter p xs))
        → (All P (filter p xs) → All Holds xs) → All Holds (x ∷ xs)
    by true is all later = All-cons Holds x xs (λ passes. All-head P x (filter p xs) all)
        (later (All-tail P x (filter p xs) all))
    by false is all later = All-cons Holds x xs (λ passes. absurd (true≢false (sym passes ∙ is))) (later all)

pub All-told : {X Y : Type 0} (f : X → Option Y) (P : Y → Type 0) → ((x : X) → IfSome (f x) P) → (xs : List X)
    → All P (filter_map f xs)
All-told f P each [] = All-nil P
All-told {Y = Y} f P each (x ∷ xs) = by (f x) (each x) (All-told f P each xs)
  where
    by : (o : Option Y) → IfSome o P → All P (filter_map f xs) → All P (cons_option o (filter_map f xs))
    by None holds later = later
    by (Some y) holds later = All-cons P y (filter_map f xs) holds later

pub All-untold : {X Y : Type 0} (f : X → Option Y) (P : Y → Type 0) (xs : List X) → All P (filter_map f xs)
    → All (λ x. IfSome (f x) P) xs
All-untold f P [] all = All-nil (λ x. IfSome (f x) P)
All-untold {X} {Y} f P (x ∷ xs) all = by (f x) refl all (λ later. All-untold f P xs later)
  where
    Tells : X → Type 0
    Tells x = IfSome (f x) P

    by : (o : Option Y) → f x ≡ o → All P (cons_option o (filter_map f xs))
        → (All P (filter_map f xs) → All Tells xs) → All Tells (x ∷ xs)
    by None is all later = All-cons Tells x xs (subst (λ o. IfSome o P) (sym is) tt) (later all)
    by (Some y) is all later = All-cons Tells x xs
        (subst (λ o. IfSome o P) (sym is) (All-head P y (filter_map f xs) all))
        (later (All-tail P y (filter_map f xs) all))

pub All-made : {X Y : Type 0} (f : X → List Y) (P : Y → Type 0) (xs : List X) → All (λ x. All P (f x)) xs
    → All P (flat_map f xs)
All-made f P [] all = All-nil P
All-made f P (x ∷ xs) all = All-append P (f x) (flat_map f xs) (All-head (λ x. All P (f x)) x xs all)
    (All-made f P xs (All-tail (λ x. All P (f x)) x xs all))

-- what holds of those that fail, and of x, which those that pass equal
pub All-but_equal : {X : Type 0} (q : X → Bool) (P : X → Type 0) (xs : List X) → ((y : X) → q y ≡ true → P y)
    → All P (filter (λ y. not (q y)) xs) → All P xs
All-but_equal q P [] equal all = All-nil P
All-but_equal {X} q P (x ∷ xs) equal all = by (q x) refl all (λ later. All-but_equal q P xs equal later)
  where
    rest : List X
    rest = filter (λ y. not (q y)) xs

    by : (b : Bool) → q x ≡ b → All P (cond (not b) (x ∷ rest) rest) → (All P rest → All P xs)
        → All P (x ∷ xs)
    by true is all later = All-cons P x xs (equal x is) (later all)
    by false is all later = All-cons P x xs (All-head P x rest all) (later (All-tail P x rest all))

-- what holds of each item holds of one that is found
pub All-found : {X : Type 0} (P : X → Type 0) (p : X → Bool) (xs : List X) (x : X) → All P xs
    → find p xs ≡ Some x → P x
All-found P p [] x all at = absurd cc
All-found P p (y ∷ ys) x all at = elim (p y) as (λ b. cond b (Some y) (find p ys) ≡ Some x → P x) [
  | true ↦ λ here. subst P (same_Some y x here) (All-head P y ys all)
  | false ↦ λ later. All-found P p ys x (All-tail P y ys all) later
] at

pub All-none : {X : Type 0} (p : X → Bool) (xs : List X) → list_any p xs ≡ false
    → All (λ x. p x ≡ false) xs
All-none p [] e = All-nil (λ x. p x ≡ false)
All-none p (x ∷ xs) e =
    let both = or_parts (p x) (list_any p xs) e in
    All-cons (λ x. p x ≡ false) x xs both.0 (All-none p xs both.1)

-- each item of a list is found
pub All-places : {X : Type 0} (same : X → X → Bool) → ((x : X) → same x x ≡ true) → (xs : List X)
    → All (λ x. position_or_len (same x) xs < length xs) xs
All-places same itself [] = All-nil (λ x. position_or_len (same x) [] < 0)
All-places {X} same itself (x ∷ xs) = All-cons Found x xs
    (by x (same x x) (itself x))
    (All-weaker (λ y. position_or_len (same y) xs < length xs) Found (λ y. later y (same y x)) xs
    (All-places same itself xs))
  where
    Found : X → Type 0
    Found y = position_or_len (same y) (x ∷ xs) < length (x ∷ xs)

    by : (y : X) (b : Bool) → b ≡ true
        → cond (not b) (1 + position_or_len (same y) xs) 0 < length (x ∷ xs)
    by y true is = omega arith
    by y false is = absurd (true≢false (sym is))

    later : (y : X) (b : Bool) → position_or_len (same y) xs < length xs
        → cond (not b) (1 + position_or_len (same y) xs) 0 < length (x ∷ xs)
    later y true found = omega arith
    later y false found = omega (arith, found)
