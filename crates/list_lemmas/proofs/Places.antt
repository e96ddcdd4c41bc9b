-- The place of the first item that passes.
use Rattle.std.proofs.Common.{All, Bool, IfSome, List, None, Option, Some, [], ap, arith, cond, false, filter}
use Rattle.std.proofs.Common.{filter_map, find, get_or, inl, inr, length, map, nat_eq, nat_lt, not, position}
use Rattle.std.proofs.Common.{refl, slice_get, subst, suc, sum_by, sym, true, zero, ℕ, ◌++◌, ◌+◌, ◌<◌, ◌||◌}
use Rattle.std.proofs.Common.{◌∙◌, ◌∷◌, ◌≡◌, ◌≤◌}
use Rattle.std.proofs.lemmas.Bool.{eq-eqb, eqb-true, ne_eqb, or_cases, true≢false}
use Rattle.std.proofs.lemmas.Bool.Decides.{Decides-eqb}
use Rattle.std.proofs.lemmas.Iterator.Adapters.{position_from-zero}
use Rattle.std.proofs.lemmas.List.{length_push}
use Rattle.std.proofs.lemmas.List.Elements.{All-head, All-tail, filter-append}
use Rattle.std.proofs.lemmas.List.Sums.{passes_at_first, position_or_len_is, sum_by-cons}
use Rattle.std.proofs.lemmas.Option.{none-some, same_Some, slice_get-get_or}
use Rattle.std.specs.List.{AllByRecursion, cons_option, list_any, position_from, position_or_len}
use Rattle.std.specs.List.{range_with_len}
use Rattle.std.specs.Option.{option_map_or, option_or}
use Rattle.list_lemmas.proofs.Distinct.{AreApart, one_place}
use Rattle.list_lemmas.proofs.Filters.{filter_map-cond}
use Rattle.list_lemmas.proofs.Options.{or_cond}
use Rattle.list_lemmas.proofs.Positions.{slice_get-append_left, slice_get-last}
use Rattle.list_lemmas.proofs.Ranges.{range_filter-agree, range_filter-none, range_with_len-more}

from-within : {X : Type 0} (p : X → Bool) (i : ℕ) (xs : List X)
    → IfSome (position_from p i xs) (λ j. j < i + length xs)
from-within p i [] = tt
from-within p i (x ∷ xs) = by (p x) (position_from p (i + 1) xs) (from-within p (i + 1) xs)
  where
    by : (b : Bool) (later : Option ℕ) → IfSome later (λ j. j < i + 1 + length xs)
        → IfSome (cond b (Some i) later) (λ j. j < i + length (x ∷ xs))
    by true later is = omega arith
    by false None is = tt
    by false (Some j) is = omega arith

pub position-within : {X : Type 0} (p : X → Bool) (xs : List X)
    → IfSome (position p xs) (λ j. j < length xs)
position-within p xs = subst (λ o. IfSome o (λ j. j < length xs)) (sym (position_from-zero p xs))
    (by (position_from p 0 xs) (from-within p 0 xs))
  where
    by : (o : Option ℕ) → IfSome o (λ j. j < 0 + length xs) → IfSome o (λ j. j < length xs)
    by None is = tt
    by (Some j) is = omega arith

pub from-map : {X Y : Type 0} (p : Y → Bool) (f : X → Y) (i : ℕ) (xs : List X)
    → position_from p i (map f xs) ≡ position_from (λ x. p (f x)) i xs
from-map p f i [] = refl
from-map p f i (x ∷ xs) = ap (cond (p (f x)) (Some i)) (from-map p f (i + 1) xs)

pub position-map : {X Y : Type 0} (p : Y → Bool) (f : X → Y) (xs : List X)
    → position p (map f xs) ≡ position (λ x. p (f x)) xs
position-map p f xs = position_from-zero p (map f xs) ∙ (from-map p f 0 xs
    ∙ sym (position_from-zero (λ x. p (f x)) xs))

push_by : (b c : Bool) (i m n : ℕ) (first later : Option ℕ) → m ≡ n
    → later ≡ option_or first (cond c (Some m) None)
    → cond b (Some i) later ≡ option_or (cond b (Some i) first) (cond c (Some n) None)
push_by true c i m n first later e is = refl
push_by false c i m n first later e is = is ∙ ap (λ n. option_or first (cond c (Some n) None)) e

from-push : {X : Type 0} (p : X → Bool) (i : ℕ) (xs : List X) (y : X) → position_from p i (xs ++ y ∷ [])
    ≡ option_or (position_from p i xs) (cond (p y) (Some (i + length xs)) None)
from-push p i [] y = ap (λ n. cond (p y) (Some n) None) (omega arith)
from-push p i (x ∷ xs) y = push_by (p x) (p y) i (i + 1 + length xs) (i + length (x ∷ xs))
    (position_from p (i + 1) xs) (position_from p (i + 1) (xs ++ y ∷ [])) (omega arith)
    (from-push p (i + 1) xs y)

pub position-push : {X : Type 0} (p : X → Bool) (xs : List X) (y : X) → position p (xs ++ y ∷ [])
    ≡ option_or (position p xs) (cond (p y) (Some (length xs)) None)
position-push p xs y =
    let at : 0 + length xs ≡ length xs = omega arith in
    position_from-zero p (xs ++ y ∷ []) ∙ (from-push p 0 xs y ∙ (ap (λ o. option_or o (cond (p y)
    (Some (0 + length xs)) None)) (sym (position_from-zero p xs)) ∙ ap (λ n. option_or (position p xs)
    (cond (p y) (Some n) None)) at))

pub from-joined : {X : Type 0} (p : X → Bool) (i at : ℕ) (xs ys : List X) → i + length xs ≡ at
    → position_from p i (xs ++ ys) ≡ option_or (position_from p i xs) (position_from p at ys)
from-joined p i at [] ys is = ap (λ n. position_from p n ys) (omega (arith, is))
from-joined p i at (x ∷ xs) ys is = or_cond (p x) i (position_from p (i + 1) (xs ++ ys))
    (position_from p (i + 1) xs) (position_from p at ys) (from-joined p (i + 1) at xs ys (omega (arith, is)))

pub find_none_from : {X : Type 0} (p : X → Bool) (i : ℕ) (xs : List X) → position_from p i xs ≡ None
    → find p xs ≡ None
find_none_from p i [] is = refl
find_none_from p i (x ∷ xs) is = by (p x) is (find_none_from p (i + 1) xs)
  where
    by : (b : Bool) → cond b (Some i) (position_from p (i + 1) xs) ≡ None
        → (position_from p (i + 1) xs ≡ None → find p xs ≡ None)
        → cond b (Some x) (find p xs) ≡ None
    by true e later = absurd (none-some i (sym e))
    by false e later = later e

pub from_range-none : {X : Type 0} (p : X → Bool) (f : ℕ → X) (a n at : ℕ)
    → ((k : ℕ) → a ≤ k → k < a + n → p (f k) ≡ false)
    → position_from p at (map f (range_with_len a n)) ≡ None
from_range-none p f a zero at never = refl
from_range-none p f a (suc n) at never =
    ap (λ b. cond b (Some at) (position_from p (at + 1) (map f (range_with_len (a + 1) n))))
    (never a (omega arith) (omega arith))
    ∙ from_range-none p f (a + 1) n (at + 1) (λ k from within. never k (omega (arith, from))
    (omega (arith, within)))

-- the place that is found
pub placed_at : {X : Type 0} (p : X → Bool) (xs : List X) (n : ℕ) → position p xs ≡ Some n
    → position_or_len p xs ≡ n
placed_at p xs n is = by (nat_lt (position_or_len p xs) (length xs)) is
  where
    by : (b : Bool) → cond b (Some (position_or_len p xs)) None ≡ Some n → position_or_len p xs ≡ n
    by true e = same_Some (position_or_len p xs) n e
    by false e = absurd (none-some n e)

-- the place of an item that goes last
pub place_new : {X : Type 0} (p : X → Bool) (xs : List X) (y : X) → list_any p xs ≡ false → p y ≡ true
    → position_or_len p (xs ++ y ∷ []) ≡ length xs
place_new p [] y none is = ap (λ b. cond (not b) 1 0) is
place_new p (x ∷ xs) y none is = by (p x) none (place_new p xs y)
  where
    by : (b : Bool) → (b || list_any p xs) ≡ false
        → (list_any p xs ≡ false → p y ≡ true → position_or_len p (xs ++ y ∷ []) ≡ length xs)
        → cond (not b) (1 + position_or_len p (xs ++ y ∷ [])) 0 ≡ length (x ∷ xs)
    by true none later = absurd (true≢false none)
    by false none later = let l = later none is in omega (arith, l)

pub place_stays : {X : Type 0} (p : X → Bool) (xs ys : List X) → list_any p xs ≡ true
    → position_or_len p (xs ++ ys) ≡ position_or_len p xs
place_stays p [] ys there = absurd (true≢false (sym there))
place_stays p (x ∷ xs) ys there = by (p x) there (place_stays p xs ys)
  where
    by : (b : Bool) → (b || list_any p xs) ≡ true
        → (list_any p xs ≡ true → position_or_len p (xs ++ ys) ≡ position_or_len p xs)
        → cond (not b) (1 + position_or_len p (xs ++ ys)) 0 ≡ cond (not b) (1 + position_or_len p xs) 0
    by true there later = refl
    by false there later = ap (λ n. 1 + n) (later there)

abbrev pub places_where : {X : Type 0} → (X → Bool) → List X → List ℕ
places_where p xs = filter (λ i. option_map_or p (slice_get xs i) false) (range_with_len 0 (length xs))

pub places_where-push : {X : Type 0} (p : X → Bool) (xs : List X) (y : X)
    → places_where p (xs ++ y ∷ []) ≡ places_where p xs ++ cond (p y) (length xs ∷ []) []
places_where-push p xs y =
    let test = λ (i : ℕ). option_map_or p (slice_get (xs ++ y ∷ []) i) false in
    ap (λ n. filter test (range_with_len 0 n)) (length_push xs y)
    ∙ (ap (filter test) (range_with_len-more 0 (length xs) (length xs) (omega arith))
    ∙ (filter-append test (range_with_len 0 (length xs)) (length xs ∷ [])
    ∙ (ap (λ is. is ++ filter test (length xs ∷ [])) (range_filter-agree test
    (λ i. option_map_or p (slice_get xs i) false) 0 (length xs)
    (λ i behind within. ap (λ o. option_map_or p o false) (slice_get-append_left xs (y ∷ []) i (omega
    arith))))
    ∙ ap (λ o. places_where p xs ++ cond (option_map_or p o false) (length xs ∷ []) [])
    (slice_get-last xs y))))

fails_at : {X : Type 0} (p : X → Bool) (xs : List X) → All (λ x. p x ≡ false) xs
    → (i : ℕ) → option_map_or p (slice_get xs i) false ≡ false
fails_at p [] fail i = refl
fails_at p (x ∷ xs) fail zero = All-head (λ x. p x ≡ false) x xs fail
fails_at p (x ∷ xs) fail (suc i) = fails_at p xs (All-tail (λ x. p x ≡ false) x xs fail) i

pub places_where-none : {X : Type 0} (p : X → Bool) (xs : List X) → All (λ x. p x ≡ false) xs
    → places_where p xs ≡ []
places_where-none p xs fail = range_filter-none 0 (length xs) (λ i. option_map_or p (slice_get xs i) false)
    (fails_at p xs fail)

items_by : {X : Type 0} (p : X → Bool) (at : ℕ → Option X) (a : ℕ) (xs : List X)
    → ((i j : ℕ) → a + i ≡ j → at j ≡ slice_get xs i)
    → filter_map at (filter (λ i. option_map_or p (at i) false) (range_with_len a (length xs)))
    ≡ filter p xs
items_by p at a [] is = refl
items_by p at a (x ∷ xs) is =
    let later = filter (λ i. option_map_or p (at i) false) (range_with_len (a + 1) (length xs)) in
    let here : at a ≡ Some x = is 0 a (omega arith) in
    ap (λ o. filter_map at (cond (option_map_or p o false) (a ∷ later) later)) here
    ∙ filter_map-cond at a x later (filter p xs) (p x) here
    (items_by p at (a + 1) xs (λ i j e. is (suc i) j (omega arith)))

pub places_where-items : {X : Type 0} (p : X → Bool) (xs : List X)
    → filter_map (slice_get xs) (places_where p xs) ≡ filter p xs
places_where-items p xs = items_by p (slice_get xs) 0 xs (λ i j e. ap (slice_get xs) (omega arith))

pub sum-at_places : {X : Type 0} (f : X → ℕ) (at : ℕ → Option X) (places : List ℕ)
    → sum_by (λ i. option_map_or f (at i) 0) places ≡ sum_by f (filter_map at places)
sum-at_places f at [] = refl
sum-at_places f at (i ∷ places) = sum_by-cons (λ i. option_map_or f (at i) 0) i places
    ∙ by (at i) (sum-at_places f at places)
  where
    by : (o : Option _) → sum_by (λ i. option_map_or f (at i) 0) places ≡ sum_by f (filter_map at places)
        → option_map_or f o 0 + sum_by (λ i. option_map_or f (at i) 0) places
        ≡ sum_by f (cons_option o (filter_map at places))
    by None later = omega (arith, later)
    by (Some x) later = ap (λ n. f x + n) later ∙ sym (sum_by-cons f x (filter_map at places))

-- where the number first stands
abbrev pub place_in : List ℕ → ℕ → ℕ
place_in xs x = position_or_len (nat_eq x) xs

abbrev pub StandsIn : List ℕ → ℕ → Type 0
StandsIn xs x = list_any (nat_eq x) xs ≡ true

place_in-within : (x : ℕ) (xs : List ℕ) → StandsIn xs x → place_in xs x < length xs
place_in-within x [] stands = absurd (true≢false (sym stands))
place_in-within x (y ∷ ys) stands = by (nat_eq x y) stands (place_in-within x ys)
  where
    by : (b : Bool) → (b || list_any (nat_eq x) ys) ≡ true → (StandsIn ys x → place_in ys x < length ys)
        → cond (not b) (1 + place_in ys x) 0 < suc (length ys)
    by true stands later = omega arith
    by false stands later = omega (arith, later stands)

place_in-at : (xs : List ℕ) (x : ℕ) → StandsIn xs x → get_or xs (place_in xs x) 0 ≡ x
place_in-at xs x stands =
    sym (eqb-true x (get_or xs (place_in xs x) 0) (passes_at_first (nat_eq x) xs 0
    (place_in-within x xs stands)))

-- different numbers stand at different places
pub place_in-apart : (xs : List ℕ) (x y : ℕ) → StandsIn xs x → StandsIn xs y → place_in xs x ≡ place_in xs y
    → x ≡ y
place_in-apart xs x y here there same = sym (place_in-at xs x here) ∙ (ap (λ i. get_or xs i 0) same
    ∙ place_in-at xs y there)

-- the different numbers of a list stand at their places one after another
pub place_in-only : (xs : List ℕ) → AreApart nat_eq xs → (i : ℕ) → i < length xs
    → place_in xs (get_or xs i 0) ≡ i
place_in-only xs apart i within = position_or_len_is (nat_eq (get_or xs i 0)) xs i 0 (omega (arith, within))
    (λ k before. ne_eqb (get_or xs i 0) (get_or xs k 0) (λ same.
    let one : i ≡ k = one_place nat_eq Decides-eqb xs apart i k (get_or xs i 0)
    (slice_get-get_or xs i 0 within)
    (slice_get-get_or xs k 0 (omega (arith, before, within)) ∙ ap (λ x. Some x) (sym same)) in
    omega (arith, one, before)))
    (λ l. eq-eqb (get_or xs i 0) (get_or xs i 0) refl)

pub found_alike : (y : ℕ) (zs xs : List ℕ) → AllByRecursion (StandsIn zs) xs
    → list_any (λ x. nat_eq x y) xs ≡ true → StandsIn zs y
found_alike y zs [] all found = absurd (true≢false (sym found))
found_alike y zs (x ∷ xs) all found = elim (or_cases (nat_eq x y) (list_any (λ x. nat_eq x y) xs) found) [
  | inl here ↦ subst (StandsIn zs) (eqb-true x y here) all.0
  | inr later ↦ found_alike y zs xs all.1 later
]
