-- Sums and greatest items.
use Rattle.std.proofs.Common.{Bool, List, Some, [], ap, arith, cond, false, filter, fold, inl, inr, map, max}
use Rattle.std.proofs.Common.{refl, slice_get, subst, suc, sum_by, sym, true, zero, zero-add, ℕ, ◌+◌}
use Rattle.std.proofs.Common.{◌<◌, ◌||◌, ◌∙◌, ◌∷◌, ◌≡◌, ◌≤◌, ◌⊎◌}
use Rattle.std.proofs.lemmas.Bool.{both_ways, cases_Bool, cases_eq, cases_lt, cond-false, cond-true}
use Rattle.std.proofs.lemmas.Bool.{true≢false}
use Rattle.std.proofs.lemmas.List.Sums.{sum_by-cons}
use Rattle.std.specs.List.{AllByRecursion, Contains, list_any}
use Rattle.list_lemmas.proofs.Members.{has_cons, has_here, has_there}

-- the sum over at most one item
pub sum_by-cond : {X : Type 0} (f : X → ℕ) (b : Bool) (x : X) → sum_by f (cond b (x ∷ []) []) ≡ cond b (f x) 0
sum_by-cond f true x = zero-add (f x)
sum_by-cond f false x = refl

pub sum_by-map : {X Y : Type 0} (f : Y → ℕ) (g : X → Y) (xs : List X)
    → sum_by f (map g xs) ≡ sum_by (λ x. f (g x)) xs
sum_by-map f g [] = refl
sum_by-map f g (x ∷ xs) = sum_by-cons f (g x) (map g xs) ∙ ap (λ n. f (g x) + n) (sum_by-map f g xs)
    ∙ sym (sum_by-cons (λ y. f (g y)) x xs)

-- sums of what is added at each item
pub sum_by-plus : {X : Type 0} (f g h : X → ℕ) → ((x : X) → f x ≡ g x + h x) → (xs : List X)
    → sum_by f xs ≡ sum_by g xs + sum_by h xs
sum_by-plus f g h e [] = refl
sum_by-plus f g h e (x ∷ xs) = omega (
  arith,
  sum_by-cons f x xs,
  sum_by-cons g x xs,
  sum_by-cons h x xs,
  e x,
  sum_by-plus f g h e xs,
)

pub sum_by-same : {X : Type 0} (f g : X → ℕ) → ((x : X) → f x ≡ g x) → (xs : List X)
    → sum_by f xs ≡ sum_by g xs
sum_by-same f g e [] = refl
sum_by-same f g e (x ∷ xs) = omega (arith, sum_by-cons f x xs, sum_by-cons g x xs, e x, sum_by-same f g e xs)

pub sum_by-filter : {X : Type 0} (f : X → ℕ) (p : X → Bool) (xs : List X) → sum_by f (filter p xs) ≡ sum_by
    (λ x. cond (p x) (f x) 0) xs
sum_by-filter f p [] = refl
sum_by-filter f p (x ∷ xs) =
    elim (cases_Bool (p x)) [
      | inl e ↦ ap (sum_by f) (cond-true (p x) (x ∷ filter p xs) (filter p xs) e) ∙ omega (
        arith,
        sum_by-cons f x (filter p xs),
        sum_by-cons (λ y. cond (p y) (f y) 0) x xs,
        cond-true (p x) (f x) 0 e,
        sum_by-filter f p xs,
      )
      | inr e ↦ ap (sum_by f) (cond-false (p x) (x ∷ filter p xs) (filter p xs) e) ∙ omega (
        arith,
        sum_by-cons (λ y. cond (p y) (f y) 0) x xs,
        cond-false (p x) (f x) 0 e,
        sum_by-filter f p xs,
      )
    ]

pub sum_by-none : {X : Type 0} (f : X → ℕ) (P : X → Type 0) → ((x : X) → P x → f x ≡ 0) → (xs : List X)
    → AllByRecursion P xs → sum_by f xs ≡ 0
sum_by-none f P z [] h = refl
sum_by-none f P z (x ∷ xs) h = omega (arith, sum_by-cons f x xs, z x h.0, sum_by-none f P z xs h.1)

pub sum_by-zero : {X : Type 0} (xs : List X) → sum_by (λ x. 0) xs ≡ 0
sum_by-zero [] = refl
sum_by-zero {X} (x ∷ xs) = omega (arith, sum_by-cons (λ (y : X). 0) x xs, sum_by-zero xs)

pub sum_by-has : {X : Type 0} (f : X → ℕ) (xs : List X) (x : X) → Contains xs x → 0 < f x → 0 < sum_by f xs
sum_by-has f [] x c h = absurd (omega (arith, c.1))
sum_by-has {X} f (y ∷ ys) x c h = elim (has_cons y x ys c) [
  | inl e ↦ omega (arith, sum_by-cons f y ys, subst (λ (z : X). 0 < f z) (sym e) h)
  | inr later ↦ omega (arith, sum_by-cons f y ys, sum_by-has f ys x later h)
]

pub sum_by-some : {X : Type 0} (f : X → ℕ) (xs : List X) → 0 < sum_by f xs
    → (x : X) × Contains xs x × (0 < f x)
sum_by-some f [] h = absurd (omega (arith, h))
sum_by-some f (x ∷ xs) h =
    elim (cases_lt 0 (f x)) [
      | inl l ↦ (x, has_here x xs, l)
      | inr z ↦
          (let rest = sum_by-some f xs (omega (arith, sum_by-cons f x xs, h, z)) in
          (rest.0, has_there x rest.0 xs rest.1, rest.2))
    ]

pub sum_by-some_term : {X : Type 0} (f : X → ℕ) (xs : List X) → 1 ≤ sum_by f xs
    → (i : ℕ) × (x : X) × (slice_get xs i ≡ Some x) × (1 ≤ f x)
sum_by-some_term f [] one = absurd (omega (arith, one))
sum_by-some_term f (x ∷ xs) one = elim (cases_eq (f x) 0) [
  | inl none ↦
      let rest = sum_by-some_term f xs (omega (arith, one, none, sum_by-cons f x xs)) in
      (suc rest.0, rest.1, rest.2, rest.3)
  | inr some ↦ (zero, x, refl, omega (arith, some))
]

pub greatest_from : (a : ℕ) (xs : List ℕ) → a ≤ fold max a xs
greatest_from a [] = omega arith
greatest_from a (x ∷ xs) = let later : max a x ≤ fold max (max a x) xs = greatest_from (max a x) xs in omega
    (arith, later)

-- none is greater
pub each_below : (a : ℕ) (xs : List ℕ) → AllByRecursion (λ x. x ≤ fold max a xs) xs
each_below a [] = tt
each_below a (x ∷ xs) = (
  let later : max a x ≤ fold max (max a x) xs = greatest_from (max a x) xs in
      omega (arith, later),
  each_below (max a x) xs,
)

pub greatest_within : (a limit : ℕ) (xs : List ℕ) → a ≤ limit → AllByRecursion (λ x. x ≤ limit) xs
    → fold max a xs ≤ limit
greatest_within a limit [] is all = is
greatest_within a limit (x ∷ xs) is all =
    let first : x ≤ limit = all.0 in
    greatest_within (max a x) limit xs (omega (arith, is, first)) all.1

-- the greatest of a list that holds a limit of its numbers
pub greatest_is : (limit : ℕ) (moments : List ℕ) → AllByRecursion (λ moment. moment ≤ limit) (limit ∷ moments)
    → limit ≡ fold max 0 (limit ∷ moments)
greatest_is limit moments within =
    let least : limit ≤ fold max 0 (limit ∷ moments) = (each_below 0 (limit ∷ moments)).0 in
    let most : fold max 0 (limit ∷ moments) ≤ limit =
    greatest_within 0 limit (limit ∷ moments) (omega arith) within in
    omega (arith, least, most)

pub greatest_of : (a : ℕ) (xs : List ℕ) → fold max a xs ≡ max a (fold max 0 xs)
greatest_of a [] = omega arith
greatest_of a (x ∷ xs) = omega (arith, greatest_of (max a x) xs, greatest_of (max 0 x) xs)

-- some items rise to a time
abbrev pub RisesTo : {X : Type 0} → ℕ → (X → ℕ) → (X → ℕ) → X → Type 0
RisesTo time f g x = (g x ≡ f x) ⊎ ((g x ≡ time) × (f x ≤ time))

pub greatest_rises : {X : Type 0} (p : X → Bool) (f g : X → ℕ) (time : ℕ)
    → ((x : X) → p x ≡ true → RisesTo time f g x) → (a b : ℕ) (xs : List X) → max a time ≡ max b time
    → max (fold max a (map g (filter p xs))) time ≡ max (fold max b (map f (filter p xs))) time
greatest_rises p f g time rise a b [] same = same
greatest_rises p f g time rise a b (x ∷ xs) same = by (p x) (rise x)
    (λ a b same. greatest_rises p f g time rise a b xs same)
  where
    step : RisesTo time f g x → max (max a (g x)) time ≡ max (max b (f x)) time
    step (inl e) = omega arith
    step (inr (e, below)) = omega arith

    by : (c : Bool) → (c ≡ true → RisesTo time f g x)
        → ((a b : ℕ) → max a time ≡ max b time
        → max (fold max a (map g (filter p xs))) time ≡ max (fold max b (map f (filter p xs))) time)
        → max (fold max a (map g (cond c (x ∷ filter p xs) (filter p xs)))) time
        ≡ max (fold max b (map f (cond c (x ∷ filter p xs) (filter p xs)))) time
    by true rises rest = rest (max a (g x)) (max b (f x)) (step (rises refl))
    by false rises rest = rest a b same

-- one of them has it
pub greatest_reaches : {X : Type 0} (p q : X → Bool) (g : X → ℕ) (time : ℕ)
    → ((x : X) → q x ≡ true → (p x ≡ true) × (g x ≡ time)) → (a : ℕ) (xs : List X) → list_any q xs ≡ true
    → time ≤ fold max a (map g (filter p xs))
greatest_reaches p q g time has a [] e = absurd (true≢false (sym e))
greatest_reaches p q g time has a (x ∷ xs) e = by (q x) (p x) refl refl e
    (λ a e. greatest_reaches p q g time has a xs e)
  where
    by : (b c : Bool) → q x ≡ b → p x ≡ c → b || list_any q xs ≡ true
        → ((a : ℕ) → list_any q xs ≡ true → time ≤ fold max a (map g (filter p xs)))
        → time ≤ fold max a (map g (cond c (x ∷ filter p xs) (filter p xs)))
    by true true is passes e later =
        let here : g x ≡ time = (has x is).1 in
        omega (arith, greatest_from (max a (g x)) (map g (filter p xs)))
    by true false is fails e later = absurd (both_ways (p x) fails (has x is).0)
    by false true is passes e later = later (max a (g x)) e
    by false false is fails e later = later a e
