-- The first item that passes, and its place.
use Rattle.std.proofs.Common.{All, Bool, IfSome, List, None, Option, Some, [], ap, ap₂, arith, cond, false}
use Rattle.std.proofs.Common.{filter, find, inl, inr, is_some, length, map, nat_lt, not, option_map, position}
use Rattle.std.proofs.Common.{refl, suc, sym, true, ℕ, ◌&&◌, ◌++◌, ◌+◌, ◌<◌, ◌||◌, ◌∙◌, ◌∷◌, ◌≡◌}
use Rattle.std.proofs.Math.Bool.{and-false, and-true}
use Rattle.std.proofs.lemmas.Bool.{cases_Bool, cond_both, lt-ltb, or_cases, or_left, or_right, true≢false}
use Rattle.std.proofs.lemmas.Iterator.Adapters.{position_from-zero}
use Rattle.std.proofs.lemmas.List.Elements.{All-head, All-tail}
use Rattle.std.proofs.lemmas.List.Folds.{list_all_at, list_any-append}
use Rattle.std.proofs.lemmas.List.Sums.{list_all-from_AllPass, prefix_len_passes, prefix_len_stops}
use Rattle.std.proofs.lemmas.Option.{same_Some}
use Rattle.std.specs.List.{AllByRecursion, cons_option, filter_map, list_all, list_any, position_from}
use Rattle.std.specs.List.{position_or_len, prefix_len}
use Rattle.std.specs.Map.{lookup}
use Rattle.std.specs.Option.{option_or}
use Rattle.std.specs.Prelude.{slice_get}
use Rattle.list_lemmas.proofs.Numbers.{ltb-suc}
use Rattle.list_lemmas.proofs.Options.{or_cond}

-- the first that is found passes
pub find_passes : {X : Type 0} (p : X → Bool) (xs : List X) → IfSome (find p xs) (λ x. p x ≡ true)
find_passes p [] = tt
find_passes p (x ∷ xs) = by (p x) refl (find_passes p xs)
  where
    by : (b : Bool) → p x ≡ b → IfSome (find p xs) (λ x. p x ≡ true) → IfSome (cond b (Some x) (find p xs))
        (λ x. p x ≡ true)
    by true e later = e
    by false e later = later

-- the item that is found passes
pub found_passes : {X : Type 0} (p : X → Bool) (xs : List X) (x : X) → find p xs ≡ Some x → p x ≡ true
found_passes p [] x at = absurd cc
found_passes p (y ∷ ys) x at = elim (cases_Bool (p y)) [
  | inl passes ↦ ap p (sym (same_Some y x (ap (λ b. cond b (Some y) (find p ys)) (sym passes) ∙ at))) ∙ passes
  | inr fails ↦ found_passes p ys x (ap (λ b. cond b (Some y) (find p ys)) (sym fails) ∙ at)
]

-- where no item passes, none is found
pub none_found : {X : Type 0} (p : X → Bool) (xs : List X) → All (λ x. p x ≡ false) xs → find p xs ≡ None
none_found p [] all = refl
none_found p (x ∷ xs) all = ap (λ b. cond b (Some x) (find p xs)) (All-head (λ y. p y ≡ false) x xs all)
    ∙ none_found p xs (All-tail (λ y. p y ≡ false) x xs all)

-- a stricter test finds nothing where the other does
pub find_stricter : {X : Type 0} (p q : X → Bool) (xs : List X) → find p xs ≡ None
    → find (λ x. p x && q x) xs ≡ None
find_stricter p q [] none = refl
find_stricter p q (x ∷ xs) none = elim (p x) as (λ b. cond b (Some x) (find p xs) ≡ None
    → cond (b && q x) (Some x) (find (λ y. p y && q y) xs) ≡ None) [
      | true ↦ λ is. absurd cc
      | false ↦ λ is. find_stricter p q xs is
    ] none

-- tests that agree find the same
pub find_agree : {X : Type 0} (p q : X → Bool) → ((x : X) → p x ≡ q x) → (xs : List X)
    → find p xs ≡ find q xs
find_agree p q agree [] = refl
find_agree p q agree (x ∷ xs) = ap₂ (λ b o. cond b (Some x) o) (agree x) (find_agree p q agree xs)

-- a test that is joined with what doesn't depend on the item
find_and : {X : Type 0} (p : X → Bool) (b : Bool) (xs : List X)
    → find (λ x. p x && b) xs ≡ cond b (find p xs) None
find_and p true xs = find_agree (λ x. p x && true) p (λ x. and-true (p x)) xs
find_and p false xs = none_found (λ x. p x && false) xs (λ k d lt. and-false _)

-- it finds something where both are so
pub is_some-find_and : {X : Type 0} (p : X → Bool) (b : Bool) (xs : List X)
    → is_some (find (λ x. p x && b) xs) ≡ (is_some (find p xs) && b)
is_some-find_and p b xs = ap is_some (find_and p b xs)
    ∙ elim b as (λ c. is_some (cond c (find p xs) None) ≡ (is_some (find p xs) && c))
    [ true ↦ sym (and-true _) | false ↦ sym (and-false _) ]

-- among what passes one test, the other finds what passes both
pub find-filter : {X : Type 0} (p q : X → Bool) (xs : List X)
    → find p (filter q xs) ≡ find (λ x. p x && q x) xs
find-filter p q [] = refl
find-filter p q (x ∷ xs) =
    let rest = find-filter p q xs in
    elim (q x) as (λ b. find p (cond b (x ∷ filter q xs) (filter q xs))
    ≡ cond (p x && b) (Some x) (find (λ y. p y && q y) xs)) [
      | true ↦ elim (p x) as (λ c. cond c (Some x) (find p (filter q xs))
          ≡ cond (c && true) (Some x) (find (λ y. p y && q y) xs)) [ true ↦ refl | false ↦ rest ]
      | false ↦ elim (p x) as (λ c. find p (filter q xs)
          ≡ cond (c && false) (Some x) (find (λ y. p y && q y) xs)) [ true ↦ rest | false ↦ rest ]
    ]

-- what is looked for stays in a filtered list, or is left out of it
pub find-filter_same : {X : Type 0} (p q : X → Bool) (b : Bool) → ((x : X) → q x ≡ true → p x ≡ b)
    → (xs : List X) → find q (filter p xs) ≡ cond b (find q xs) None
find-filter_same p q b same xs = find-filter q p xs
    ∙ find_agree (λ x. q x && p x) (λ x. q x && b) (λ x. elim (q x) as
    (λ c. (c ≡ true → p x ≡ b) → (c && p x) ≡ (c && b))
    [ true ↦ λ here. here refl | false ↦ λ here. refl ] (same x)) xs ∙ find_and q b xs

-- among changed items the first is found that passes once it is changed
pub find-map : {X : Type 0} (p : X → Bool) (g : X → X) (xs : List X)
    → find p (map g xs) ≡ option_map g (find (λ x. p (g x)) xs)
find-map p g [] = refl
find-map p g (x ∷ xs) = ap (λ o. cond (p (g x)) (Some (g x)) o) (find-map p g xs) ∙ elim (p (g x))
    as (λ b. cond b (Some (g x)) (option_map g (find (λ y. p (g y)) xs))
    ≡ option_map g (cond b (Some x) (find (λ y. p (g y)) xs))) [ true ↦ refl | false ↦ refl ]

-- where a change keeps the test, the item that was found before is found
pub find-map_same : {X : Type 0} (p : X → Bool) (g : X → X) → ((x : X) → p (g x) ≡ p x) → (xs : List X)
    → find p (map g xs) ≡ option_map g (find p xs)
find-map_same p g same xs = find-map p g xs ∙ ap (option_map g) (find_agree (λ x. p (g x)) p same xs)

pub find_kept : {X : Type 0} (p : X → Bool) (found : Option X) (x : X) → p x ≡ false
    → option_or found (find p (x ∷ [])) ≡ found
find_kept p None x never = ap (λ b. cond b (Some x) None) never
find_kept p (Some y) x never = refl

-- the first value that is given
pub first-append : {X Y : Type 0} (h : X → Option Y) (xs ys : List X)
    → slice_get (filter_map h (xs ++ ys)) 0 ≡ option_or (slice_get (filter_map h xs) 0)
    (slice_get (filter_map h ys) 0)
first-append h [] ys = refl
first-append h (x ∷ xs) ys = elim (h x) as (λ o. slice_get (cons_option o (filter_map h (xs ++ ys))) 0 ≡
    option_or (slice_get (cons_option o (filter_map h xs)) 0) (slice_get (filter_map h ys) 0))
    [ None ↦ first-append h xs ys | Some y ↦ refl ]

first-one : {X Y : Type 0} (h : X → Option Y) (x : X) → slice_get (filter_map h (x ∷ [])) 0 ≡ h x
first-one h x = elim (h x) as (λ o. slice_get (cons_option o []) 0 ≡ o) [ None ↦ refl | Some y ↦ refl ]

pub first_more : {X Y : Type 0} (h : X → Option Y) (xs : List X) (x : X)
    → slice_get (filter_map h (xs ++ x ∷ [])) 0 ≡ option_or (slice_get (filter_map h xs) 0) (h x)
first_more h xs x = first-append h xs (x ∷ []) ∙ ap (option_or (slice_get (filter_map h xs) 0))
    (first-one h x)

-- the first value that h gives
abbrev pub first_given : {X Y : Type 0} → (X → Option Y) → List X → Option Y
first_given h xs = slice_get (filter_map h xs) 0

-- the value is that of an item
abbrev IsGivenBy : {X Y : Type 0} → (X → Option Y) → List X → Y → Type 0
IsGivenBy {X} h xs y = (k : ℕ) × (x : X) × (slice_get xs k ≡ Some x) × (h x ≡ Some y)

given_by_first : {X Y : Type 0} (h : X → Option Y) (x : X) (xs : List X) (y : Y)
    → (first_given h xs ≡ Some y → IsGivenBy h xs y) → first_given h (x ∷ xs) ≡ Some y → (o : Option Y)
    → h x ≡ o
    → IsGivenBy h (x ∷ xs) y
given_by_first h x xs y later at None e =
    let rest = later (sym (ap (λ o. slice_get (cons_option o (filter_map h xs)) 0) e) ∙ at) in
    (suc rest.0, rest.1, rest.2, rest.3)
given_by_first h x xs y later at (Some z) e =
    (0, x, refl, e ∙ sym (ap (λ o. slice_get (cons_option o (filter_map h xs)) 0) e) ∙ at)

pub given_from_first : {X Y : Type 0} (h : X → Option Y) (xs : List X) (y : Y) → first_given h xs ≡ Some y
    → IsGivenBy h xs y
given_from_first h [] y at = absurd cc
given_from_first h (x ∷ xs) y at = given_by_first h x xs y (given_from_first h xs y) at (h x) refl

pub any_more : {X : Type 0} (p : X → Bool) (xs : List X) (x : X)
    → list_any p (xs ++ x ∷ []) ≡ (list_any p xs || p x)
any_more p xs x = list_any-append p xs (x ∷ []) ∙ ap (λ b. list_any p xs || b)
    (elim (p x) as (λ b. (b || false) ≡ b) [ true ↦ refl | false ↦ refl ])

pub any-agree : {X : Type 0} (p q : X → Bool) → ((x : X) → p x ≡ q x) → (xs : List X)
    → list_any p xs ≡ list_any q xs
any-agree p q agree [] = refl
any-agree p q agree (x ∷ xs) = ap (λ b. b || list_any p xs) (agree x) ∙ ap (λ b. q x || b)
    (any-agree p q agree xs)

-- a filter that keeps all that pass
pub any-filter : {X : Type 0} (p q : X → Bool) → ((x : X) → p x ≡ true → q x ≡ true) → (xs : List X)
    → list_any p (filter q xs) ≡ list_any p xs
any-filter p q keeps [] = refl
any-filter p q keeps (x ∷ xs) = by (p x) (q x) refl refl (any-filter p q keeps xs)
  where
    by : (a b : Bool) → p x ≡ a → q x ≡ b → list_any p (filter q xs) ≡ list_any p xs
        → list_any p (cond b (x ∷ filter q xs) (filter q xs)) ≡ (a || list_any p xs)
    by a true e f later = ap (λ c. c || list_any p (filter q xs)) e ∙ ap (λ c. a || c) later
    by true false e f later = absurd (true≢false (sym (keeps x e) ∙ f))
    by false false e f later = later

pub any_implied : {X : Type 0} (p q : X → Bool) (xs : List X) → ((x : X) → p x ≡ true → q x ≡ true)
    → list_any p xs ≡ true
    → list_any p (filter q xs) ≡ true
any_implied p q [] implied found = found
any_implied p q (x ∷ xs) implied found =
    cond_both (q x) (x ∷ filter q xs) (filter q xs) (λ ys. list_any p ys ≡ true)
    (λ e. elim (or_cases (p x) (list_any p xs) found) [
      | inl here ↦ or_left (p x) (list_any p (filter q xs)) here
      | inr later ↦ or_right (p x) (list_any p (filter q xs)) (any_implied p q xs implied later)
    ])
    (λ e. elim (or_cases (p x) (list_any p xs) found) [
      | inl here ↦ absurd (true≢false (sym (implied x here) ∙ e))
      | inr later ↦ any_implied p q xs implied later
    ])

pub any_none : {X : Type 0} (p : X → Bool) (ks : List X) → AllByRecursion (λ k. p k ≡ false) ks
    → list_any p ks ≡ false
any_none p [] h = refl
any_none p (k ∷ ks) h = ap (λ t. t || list_any p ks) h.0 ∙ any_none p ks h.1

any-from : {X : Type 0} (p : X → Bool) (i : ℕ) (xs : List X) → is_some (position_from p i xs) ≡ list_any p xs
any-from p i [] = refl
any-from p i (x ∷ xs) = by (p x) (any-from p (i + 1) xs)
  where
    by : (b : Bool) → is_some (position_from p (i + 1) xs) ≡ list_any p xs
        → is_some (cond b (Some i) (position_from p (i + 1) xs)) ≡ (b || list_any p xs)
    by true later = refl
    by false later = later

-- it has a place where one passes
pub any-place : {X : Type 0} (p : X → Bool) (xs : List X) → list_any p xs ≡ is_some (position p xs)
any-place p xs = sym (ap is_some (position_from-zero p xs) ∙ any-from p 0 xs)

pub any_place_within : {X : Type 0} (p : X → Bool) (xs : List X)
    → list_any p xs ≡ nat_lt (position_or_len p xs) (length xs)
any_place_within p [] = refl
any_place_within p (x ∷ xs) = by (p x) (any_place_within p xs)
  where
    by : (b : Bool) → list_any p xs ≡ nat_lt (position_or_len p xs) (length xs)
        → (b || list_any p xs) ≡ nat_lt (cond (not b) (1 + position_or_len p xs) 0) (suc (length xs))
    by true later = sym (lt-ltb 0 (suc (length xs)) (omega arith))
    by false later = later ∙ ltb-suc (position_or_len p xs) (length xs)

pub all_by_prefix : (p : ℕ → Bool) (xs : List ℕ) → prefix_len p xs ≡ length xs → list_all p xs ≡ true
all_by_prefix p xs e = list_all-from_AllPass p xs (λ k d below. prefix_len_passes p xs k d (omega arith))

pub not_all_by_prefix : (p : ℕ → Bool) (xs : List ℕ) → prefix_len p xs < length xs → list_all p xs ≡ false
not_all_by_prefix p xs short = list_all_at p xs (prefix_len p xs) 0 short (prefix_len_stops p xs 0 short)

pub lookup-push : {K X : Type 0} (t : K → Bool) (es : List (K × X)) (k : K) (x : X)
    → lookup t (es ++ (k, x) ∷ []) ≡ option_or (lookup t es) (cond (t k) (Some x) None)
lookup-push t [] k x = refl
lookup-push t (e ∷ es) k x = or_cond (t e.0) e.1 (lookup t (es
    ++ (k, x) ∷ [])) (lookup t es) (cond (t k) (Some x) None) (lookup-push t es k x)
