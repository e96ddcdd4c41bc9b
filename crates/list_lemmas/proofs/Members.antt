-- Which items a list has.
use Rattle.std.proofs.Common.{Bool, Contains, List, Some, [], ap, ap₂, arith, cond, count_by, eqb, false}
use Rattle.std.proofs.Common.{filter, flat_map, inl, inr, le_of_suc-le-suc, length, map, refl, slice_get}
use Rattle.std.proofs.Common.{subst, suc, suc-le-suc, sum_by, sym, true, zero, zero-le, ℕ, ◌++◌, ◌+◌, ◌∙◌}
use Rattle.std.proofs.Common.{◌∷◌, ◌≡◌, ◌≤◌, ◌⊎◌}
use Rattle.std.proofs.lemmas.Bool.{true≢false}
use Rattle.std.proofs.lemmas.Bool.Decides.{eqb_tells}
use Rattle.std.proofs.lemmas.List.Elements.{Contains-append_cases, Contains-append_left}
use Rattle.std.proofs.lemmas.List.Elements.{Contains-append_right}
use Rattle.std.proofs.lemmas.List.Sums.{sum_by-cons}
use Rattle.std.proofs.lemmas.Option.{none-some, same_Some}
use Rattle.list_lemmas.proofs.Booleans.{true_from_count}
use Rattle.list_lemmas.proofs.Numbers.{pos_part}

pub has_here : {X : Type 0} (x : X) (xs : List X) → Contains (x ∷ xs) x
has_here x xs = (0, omega arith, refl)

pub has_there : {X : Type 0} (y x : X) (xs : List X) → Contains xs x → Contains (y ∷ xs) x
has_there y x xs c = (suc c.0, omega (arith, c.1), c.2)

pub has_cons : {X : Type 0} (y x : X) (xs : List X) → Contains (y ∷ xs) x → (y ≡ x) ⊎ Contains xs x
has_cons y x xs (zero, h, e) = inl e
has_cons y x xs (suc k, h, e) = inr (k, omega (arith, h), e)

-- the list has the element
abbrev pub IsAmong : {X : Type 0} → List X → X → Type 0
IsAmong [] x = ⊥
IsAmong (y ∷ ys) x = (y ≡ x) ⊎ IsAmong ys x

pub IsAmong-from_Contains : {X : Type 0} → (xs : List X) (x : X) → Contains xs x → IsAmong xs x
IsAmong-from_Contains [] x (k, below, is) = absurd (omega (arith, below))
IsAmong-from_Contains (y ∷ ys) x (zero, below, is) = inl is
IsAmong-from_Contains (y ∷ ys) x (suc k, below, is) =
    inr (IsAmong-from_Contains ys x (k, le_of_suc-le-suc below, is))

-- a list of one has that one
pub has_only : {X : Type 0} → (x y : X) → Contains (x ∷ []) y → x ≡ y
has_only x y h = elim (IsAmong-from_Contains (x ∷ []) y h) [
  | inl e ↦ e
  | inr none ↦ absurd none
]

pub filter-has : {X : Type 0} (p : X → Bool) (xs : List X) (x : X) → Contains (filter p xs) x
    → Contains xs x × (p x ≡ true)
filter-has p [] x c = absurd (omega (arith, c.1))
filter-has {X} p (y ∷ ys) x c = by (p y) refl (filter-has p ys x) c
  where
    by : (b : Bool) → p y ≡ b → (Contains (filter p ys) x → Contains ys x × (p x ≡ true))
        → Contains (cond b (y ∷ filter p ys) (filter p ys)) x → Contains (y ∷ ys) x × (p x ≡ true)
    by true e rest h = elim (has_cons y x (filter p ys) h) [
      | inl same ↦ (
        subst (λ (z : X). Contains (y ∷ ys) z) same (has_here y ys),
        subst (λ (z : X). p z ≡ true) same e,
      )
      | inr later ↦ (has_there y x ys (rest later).0, (rest later).1)
    ]
    by false e rest h = (has_there y x ys (rest h).0, (rest h).1)

pub filter-keeps : {X : Type 0} (p : X → Bool) (xs : List X) (x : X) → Contains xs x → p x ≡ true
    → Contains (filter p xs) x
filter-keeps p [] x c t = absurd (omega (arith, c.1))
filter-keeps {X} p (y ∷ ys) x c t = by (p y) refl (λ h. filter-keeps p ys x h t) c
  where
    by : (b : Bool) → p y ≡ b → (Contains ys x → Contains (filter p ys) x) → Contains (y ∷ ys) x
        → Contains (cond b (y ∷ filter p ys) (filter p ys)) x
    by true e rest h = elim (has_cons y x ys h) [
      | inl same ↦ subst (λ (z : X). Contains (y ∷ filter p ys) z) same (has_here y (filter p ys))
      | inr later ↦ has_there y x (filter p ys) (rest later)
    ]
    by false e rest h = elim (has_cons y x ys h) [
      | inl same ↦ absurd (true≢false (sym t ∙ ap p (sym same) ∙ e))
      | inr later ↦ rest later
    ]

pub flat_map-has : {X Y : Type 0} (f : X → List Y) (xs : List X) (y : Y) → Contains (flat_map f xs) y
    → (x : X) × Contains xs x × Contains (f x) y
flat_map-has f [] y c = absurd (omega (arith, c.1))
flat_map-has f (x ∷ xs) y c = elim (Contains-append_cases (f x) (flat_map f xs) y c) [
  | inl here ↦ (x, has_here x xs, here)
  | inr there ↦ (
      let h = flat_map-has f xs y there in
      (h.0, has_there x h.0 xs h.1, h.2))
]

pub flat_map-keeps : {X Y : Type 0} (f : X → List Y) (xs : List X) (x : X) (y : Y) → Contains xs x
    → Contains (f x) y → Contains (flat_map f xs) y
flat_map-keeps f [] x y c d = absurd (omega (arith, c.1))
flat_map-keeps {X} {Y} f (z ∷ zs) x y c d = elim (has_cons z x zs c) [
  | inl same ↦ Contains-append_left (f z) (flat_map f zs) y
      (subst (λ (q : X). Contains (f q) y) (sym same) d)
  | inr later ↦ Contains-append_right (f z) (flat_map f zs) y (flat_map-keeps f zs x y later d)
]

-- a number is not in the list, or it is
pub has_or_not : (id : ℕ) (xs : List ℕ) → (count_by (λ x. eqb x id) xs ≡ 0) ⊎ Contains xs id
has_or_not id [] = inl refl
has_or_not id (x ∷ xs) =
    elim (has_or_not id xs) [
      | inr later ↦ inr (Contains-append_right (x ∷ []) xs id later)
      | inl none ↦ elim (eqb_tells x id) [
        | inl same ↦ inr (0, omega arith, same.1)
        | inr other ↦ inl (sum_by-cons (λ x. cond (eqb x id) 1 0) x xs
            ∙ ap₂ ◌+◌ (ap {B = ℕ} (λ b. cond b 1 0) other.0) none)
      ]
    ]

pub Contains-from_IsAmong : {X : Type 0} → (xs : List X) (x : X) → IsAmong xs x → Contains xs x
Contains-from_IsAmong [] x h = absurd h
Contains-from_IsAmong (y ∷ ys) x (inl e) = (zero, suc-le-suc zero-le, e)
Contains-from_IsAmong (y ∷ ys) x (inr h) =
    let at = Contains-from_IsAmong ys x h in
    (suc at.0, suc-le-suc at.1, at.2)

pub IsAmong-append_left : {X : Type 0} → (xs ys : List X) (x : X) → IsAmong xs x → IsAmong (xs ++ ys) x
IsAmong-append_left [] ys x h = absurd h
IsAmong-append_left (z ∷ xs) ys x (inl e) = inl e
IsAmong-append_left (z ∷ xs) ys x (inr h) = inr (IsAmong-append_left xs ys x h)

pub IsAmong-append_right : {X : Type 0} → (xs ys : List X) (x : X) → IsAmong ys x → IsAmong (xs ++ ys) x
IsAmong-append_right [] ys x h = h
IsAmong-append_right (z ∷ xs) ys x h = inr (IsAmong-append_right xs ys x h)

pub IsAmong-append_cases : {X : Type 0} → (xs ys : List X) (x : X) → IsAmong (xs ++ ys) x
    → IsAmong xs x ⊎ IsAmong ys x
IsAmong-append_cases [] ys x h = inr h
IsAmong-append_cases (z ∷ xs) ys x (inl e) = inl (inl e)
IsAmong-append_cases (z ∷ xs) ys x (inr h) = elim (IsAmong-append_cases xs ys x h) [
  | inl a ↦ inl (inr a)
  | inr b ↦ inr b
]

-- an element of one of the lists that are put one after the other
pub IsAmong-flat_map : {X A : Type 0} → (f : X → List A) (xs : List X) (x : X) (a : A) → IsAmong xs x
    → IsAmong (f x) a → IsAmong (flat_map f xs) a
IsAmong-flat_map f [] x a h is = absurd h
IsAmong-flat_map f (y ∷ ys) x a (inl e) is =
    IsAmong-append_left (f y) (flat_map f ys) a (rw e is)
IsAmong-flat_map f (y ∷ ys) x a (inr h) is =
    IsAmong-append_right (f y) (flat_map f ys) a (IsAmong-flat_map f ys x a h is)

pub IsAmong-flat_map_cases : {X A : Type 0} → (f : X → List A) (xs : List X) (a : A)
    → IsAmong (flat_map f xs) a → (x : X) × IsAmong xs x × IsAmong (f x) a
IsAmong-flat_map_cases f [] a h = absurd h
IsAmong-flat_map_cases f (y ∷ ys) a h = elim (IsAmong-append_cases (f y) (flat_map f ys) a h) [
  | inl here ↦ (y, inl refl, here)
  | inr later ↦
      let at = IsAmong-flat_map_cases f ys a later in
      (at.0, inr at.1, at.2)
]

pub IsAmong-map : {X A : Type 0} → (f : X → A) (xs : List X) (x : X) → IsAmong xs x → IsAmong (map f xs) (f x)
IsAmong-map f [] x h = absurd h
IsAmong-map f (y ∷ ys) x (inl e) = inl (ap f e)
IsAmong-map f (y ∷ ys) x (inr h) = inr (IsAmong-map f ys x h)

pub IsAmong-map_cases : {X A : Type 0} → (f : X → A) (xs : List X) (a : A) → IsAmong (map f xs) a
    → (x : X) × IsAmong xs x × (f x ≡ a)
IsAmong-map_cases f [] a h = absurd h
IsAmong-map_cases f (y ∷ ys) a (inl e) = (y, inl refl, e)
IsAmong-map_cases f (y ∷ ys) a (inr h) =
    let at = IsAmong-map_cases f ys a h in
    (at.0, inr at.1, at.2)

pub IsAmong-place : {X : Type 0} → (xs : List X) (x : X) → IsAmong xs x → (i : ℕ) × (slice_get xs i ≡ Some x)
IsAmong-place [] x h = absurd h
IsAmong-place (y ∷ ys) x (inl same) = (zero, ap (λ z. Some z) same)
IsAmong-place (y ∷ ys) x (inr h) =
    let at = IsAmong-place ys x h in
    (suc at.0, at.1)

pub IsAmong-from_place : {X : Type 0} → (xs : List X) (x : X) (i : ℕ) → slice_get xs i ≡ Some x → IsAmong xs x
IsAmong-from_place [] x i at = absurd (none-some x at)
IsAmong-from_place (y ∷ ys) x zero at = inl (same_Some y x at)
IsAmong-from_place (y ∷ ys) x (suc i) at = inr (IsAmong-from_place ys x i at)

-- a sum that isn't 0 has a part that isn't
pub part_that_counts : {X : Type 0} → (f : X → ℕ) (xs : List X) → 1 ≤ sum_by f xs
    → (x : X) × IsAmong xs x × (1 ≤ f x)
part_that_counts f [] h = absurd (omega arith)
part_that_counts f (x ∷ xs) h = elim (pos_part (f x) (sum_by f xs) (omega (arith, sum_by-cons f x xs, h))) [
  | inl here ↦ (x, inl refl, here)
  | inr later ↦
      let at = part_that_counts f xs later in
      (at.0, inr at.1, at.2)
]

-- where some are counted, one passes
pub one_that_passes : {X : Type 0} → (p : X → Bool) (xs : List X) → 1 ≤ count_by p xs
    → (x : X) × IsAmong xs x × (p x ≡ true)
one_that_passes p xs h =
    let at = part_that_counts (λ x. cond (p x) 1 0) xs h in
    (at.0, at.1, true_from_count (p at.0) at.2)

pub part-le-sum_by : {X : Type 0} → (f : X → ℕ) (xs : List X) (x : X) → IsAmong xs x → f x ≤ sum_by f xs
part-le-sum_by f [] x h = absurd h
part-le-sum_by f (y ∷ ys) x (inl e) =
    let same : f y ≡ f x = ap f e in omega (arith, sum_by-cons f y ys, same)
part-le-sum_by f (y ∷ ys) x (inr h) = omega (arith, sum_by-cons f y ys, part-le-sum_by f ys x h)

abbrev pub IsApart : {X : Type 0} → List X → Type 0
IsApart [] = Unit {0}
IsApart (x ∷ xs) = (¬ IsAmong xs x) × IsApart xs

pub IsApart-append : {X : Type 0} → (xs ys : List X) → IsApart xs → IsApart ys
    → ((x : X) → IsAmong xs x → ¬ IsAmong ys x) → IsApart (xs ++ ys)
IsApart-append [] ys a b apart = b
IsApart-append (x ∷ xs) ys a b apart = (
  λ h. elim (IsAmong-append_cases xs ys x h) [
    | inl left ↦ a.0 left
    | inr right ↦ apart x (inl refl) right
  ],
  IsApart-append xs ys a.1 b (λ y h. apart y (inr h)),
)

-- the list without one of its elements
abbrev without : {X : Type 0} → (xs : List X) (x : X) → IsAmong xs x → List X
without [] x h = []
without (y ∷ ys) x (inl e) = ys
without (y ∷ ys) x (inr h) = y ∷ without ys x h

length-without : {X : Type 0} → (xs : List X) (x : X) (h : IsAmong xs x)
    → length (without xs x h) + 1 ≡ length xs
length-without [] x h = absurd h
length-without (y ∷ ys) x (inl e) = omega arith
length-without (y ∷ ys) x (inr h) = omega (arith, length-without ys x h)

-- another element is left
others_left : {X : Type 0} → (xs : List X) (x y : X) (h : IsAmong xs x) → IsAmong xs y → (¬ (x ≡ y))
    → IsAmong (without xs x h) y
others_left [] x y h g differ = absurd h
others_left (z ∷ zs) x y (inl e) (inl f) differ = absurd (differ (sym e ∙ f))
others_left (z ∷ zs) x y (inl e) (inr g) differ = g
others_left (z ∷ zs) x y (inr h) (inl f) differ = inl f
others_left (z ∷ zs) x y (inr h) (inr g) differ = inr (others_left zs x y h g differ)

-- where each element of a list without repeats has one of its own in another, that is as long
pub length-le_from_own : {X Y : Type 0} → (R : X → Y → Type 0) (xs : List X) (ys : List Y) → IsApart xs
    → ((x : X) → IsAmong xs x → (y : Y) × IsAmong ys y × R x y)
    → ((x z : X) (y : Y) → R x y → R z y → x ≡ z) → length xs ≤ length ys
length-le_from_own R [] ys apart each own = omega arith
length-le_from_own R (x ∷ xs) ys apart each own =
    let (y, among, is) = each x (inl refl) in
    let rest = length-le_from_own R xs (without ys y among) apart.1 (λ z h.
    let (w, there, holds) = each z (inr h) in (
      w,
      others_left ys y w among there (λ same.
          apart.0 (subst (IsAmong xs) (own z x w holds (subst (R x) same is)) h)),
      holds,
    )) own in
    omega (arith, rest, length-without ys y among)
