-- What passes a test, or two.
use Rattle.std.proofs.Common.{All, Bool, List, None, Option, Some, [], ap, ap₂, arith, cond, count_by, false}
use Rattle.std.proofs.Common.{filter, filter_map, get_or, inl, inr, length, map, not, refl, replicate, set}
use Rattle.std.proofs.Common.{sym, true, ℕ, ◌&&◌, ◌++◌, ◌+◌, ◌<◌, ◌||◌, ◌∙◌, ◌∷◌, ◌≡◌, ◌≤◌}
use Rattle.std.proofs.lemmas.Bool.{cases_Bool, cond-false, cond-true, cond_both, false_from_ne_true}
use Rattle.std.proofs.lemmas.Bool.{true≢false}
use Rattle.std.proofs.lemmas.List.{append-nil, length-set, map-append}
use Rattle.std.proofs.lemmas.List.Elements.{All-head, All-tail, filter-append, filter_agree}
use Rattle.std.proofs.lemmas.List.Folds.{sum_by-replicate}
use Rattle.std.proofs.lemmas.List.Sums.{count_by-le-length, length-filter, sum_by-append, sum_by-cons}
use Rattle.std.proofs.lemmas.List.Sums.{sum_by-set}
use Rattle.std.proofs.lemmas.Option.{get_or_from_slice_get, slice_get_within}
use Rattle.std.specs.List.{AllByRecursion, cons_option}
use Rattle.std.specs.Prelude.{is_some, slice_get}
use mathlib.Core.Bool.{and_comm}
use Rattle.list_lemmas.proofs.Booleans.{count_or-le, one_if}

pub filter_none : {X : Type 0} (p : X → Bool) (xs : List X) → AllByRecursion (λ x. p x ≡ false) xs
    → filter p xs ≡ []
filter_none p [] h = refl
filter_none p (x ∷ xs) h = ap (λ (b : Bool). cond b (x ∷ filter p xs) (filter p xs)) h.0 ∙ filter_none p xs
    h.1

pub filter_every : {X : Type 0} (p : X → Bool) (xs : List X) → AllByRecursion (λ x. p x ≡ true) xs
    → filter p xs ≡ xs
filter_every p [] h = refl
filter_every p (x ∷ xs) h = cond-true (p x) (x ∷ filter p xs) (filter p xs) h.0 ∙ ap (λ ys. x ∷ ys)
    (filter_every p xs h.1)

pub filter_All-none : {X : Type 0} (p : X → Bool) (xs : List X) → All (λ x. p x ≡ false) xs → filter p xs ≡ []
filter_All-none p [] h = refl
filter_All-none p (x ∷ xs) h =
    ap (λ (b : Bool). cond b (x ∷ filter p xs) (filter p xs)) (All-head (λ y. p y ≡ false) x xs h)
    ∙ filter_All-none p xs (All-tail (λ y. p y ≡ false) x xs h)

pub filter_All-every : {X : Type 0} (p : X → Bool) (xs : List X) → All (λ x. p x ≡ true) xs → filter p xs ≡ xs
filter_All-every p [] h = refl
filter_All-every p (x ∷ xs) h =
    ap (λ (b : Bool). cond b (x ∷ filter p xs) (filter p xs)) (All-head (λ y. p y ≡ true) x xs h)
    ∙ ap (λ l. x ∷ l) (filter_All-every p xs (All-tail (λ y. p y ≡ true) x xs h))

filter_always : {X : Type 0} (xs : List X) → filter (λ x. true) xs ≡ xs
filter_always [] = refl
filter_always (x ∷ xs) = ap (λ ys. x ∷ ys) (filter_always xs)

-- a second test that passes wherever the first passes
pub filter_filter_same : {X : Type 0} (p q : X → Bool) → ((x : X) → p x ≡ true → q x ≡ true) → (xs : List X)
    → filter p (filter q xs) ≡ filter p xs
filter_filter_same p q h [] = refl
filter_filter_same {X} p q h (x ∷ xs) =
    let rest : filter p (filter q xs) ≡ filter p xs = filter_filter_same p q h xs in
    cond_both (q x) (x ∷ filter q xs) (filter q xs) (λ ys. filter p ys ≡ filter p (x ∷ xs))
    (λ e. ap (λ (ys : List X). cond (p x) (x ∷ ys) ys) rest)
    (λ e. rest ∙ sym (cond-false (p x) (x ∷ filter p xs) (filter p xs)
    (false_from_ne_true (p x) (λ k. true≢false (sym (h x k) ∙ e)))))

-- or fails wherever it passes
pub filter_filter_none : {X : Type 0} (p q : X → Bool) → ((x : X) → p x ≡ true → q x ≡ false) → (xs : List X)
    → filter p (filter q xs) ≡ []
filter_filter_none p q h [] = refl
filter_filter_none p q h (x ∷ xs) =
    let rest : filter p (filter q xs) ≡ [] = filter_filter_none p q h xs in
    cond_both (q x) (x ∷ filter q xs) (filter q xs) (λ ys. filter p ys ≡ [])
    (λ e. cond-false (p x) (x ∷ filter p (filter q xs)) (filter p (filter q xs))
    (false_from_ne_true (p x) (λ k. true≢false (sym e ∙ h x k))) ∙ rest)
    (λ e. rest)

pub filter_filter_and : {X : Type 0} (p q : X → Bool) (xs : List X) → filter p (filter q xs)
    ≡ filter (λ x. q x && p x) xs
filter_filter_and p q [] = refl
filter_filter_and {X} p q (x ∷ xs) = by (q x) (filter_filter_and p q xs)
  where
    by : (b : Bool) → filter p (filter q xs) ≡ filter (λ x. q x && p x) xs
        → filter p (cond b (x ∷ filter q xs) (filter q xs))
        ≡ cond (b && p x) (x ∷ filter (λ x. q x && p x) xs) (filter (λ x. q x && p x) xs)
    by true later = ap (λ (ys : List X). cond (p x) (x ∷ ys) ys) later
    by false later = later

pub filter_filter_swap : {X : Type 0} (p q : X → Bool) (xs : List X)
    → filter p (filter q xs) ≡ filter q (filter p xs)
filter_filter_swap p q xs = filter_filter_and p q xs
    ∙ (filter_agree (λ x. q x && p x) (λ x. p x && q x) (λ x. and_comm (q x) (p x)) xs
    ∙ sym (filter_filter_and q p xs))

pub filter-cons : {X : Type 0} (p : X → Bool) (x : X) (xs : List X) → filter p (x ∷ [])
    ++ filter p xs ≡ filter p (x ∷ xs)
filter-cons {X} p x xs = go (p x)
  where
    go : (b : Bool) → cond b (x ∷ []) [] ++ filter p xs ≡ cond b (x ∷ filter p xs) (filter p xs)
    go true = refl
    go false = refl

pub filter-passed : {X : Type 0} (p : X → Bool) (xs : List X) (y : X) → p y ≡ true
    → filter p (xs ++ y ∷ []) ≡ filter p xs ++ y ∷ []
filter-passed p xs y passes = filter-append p xs (y ∷ [])
    ∙ ap (λ b. filter p xs ++ cond b (y ∷ []) []) passes

pub filter-failed : {X : Type 0} (p : X → Bool) (xs : List X) (y : X) → p y ≡ false
    → filter p (xs ++ y ∷ []) ≡ filter p xs
filter-failed p xs y fails = filter-append p xs (y ∷ []) ∙ (ap (λ b. filter p xs ++ cond b (y ∷ []) []) fails
    ∙ append-nil (filter p xs))

pub filter-map : {X Y : Type 0} (p : Y → Bool) (f : X → Y) (xs : List X) → filter p (map f xs) ≡ map f
    (filter (λ x. p (f x)) xs)
filter-map p f [] = refl
filter-map {X} {Y} p f (x ∷ xs) =
    elim (cases_Bool (p (f x))) [
      | inl e ↦ cond-true (p (f x)) (f x ∷ filter p (map f xs)) (filter p (map f xs)) e
          ∙ ap (λ (ys : List Y). f x ∷ ys) (filter-map p f xs)
          ∙ ap (map f) (sym (cond-true (p (f x)) (x ∷ filter (λ z. p (f z)) xs) (filter (λ z. p (f z)) xs) e))
      | inr e ↦ cond-false (p (f x)) (f x ∷ filter p (map f xs)) (filter p (map f xs)) e
          ∙ filter-map p f xs
          ∙ ap (map f) (sym (cond-false (p (f x)) (x ∷ filter (λ z. p (f z)) xs) (filter (λ z. p (f z)) xs)
          e))
    ]

pub filter-map_agree : {X Y : Type 0} (p : Y → Bool) (q : X → Bool) (f : X → Y) (xs : List X)
    → AllByRecursion (λ x. p (f x) ≡ q x) xs → filter p (map f xs) ≡ map f (filter q xs)
filter-map_agree p q f [] all = refl
filter-map_agree {X} {Y} p q f (x ∷ xs) all =
    ap₂ (λ b ys. cond b (f x ∷ ys) ys) all.0 (filter-map_agree p q f xs all.1) ∙ by (q x)
  where
    by : (b : Bool) → cond b (f x ∷ map f (filter q xs)) (map f (filter q xs))
        ≡ map f (cond b (x ∷ filter q xs) (filter q xs))
    by true = refl
    by false = refl

-- an item that one before it equals goes
pub filter_apart : {X : Type 0} (y : X) (p : X → Bool) (b : Bool) → filter p (cond b [] (y ∷ []))
    ≡ cond (not (p y) || b) [] (y ∷ [])
filter_apart y p true = by (p y)
  where
    by : (b : Bool) → [] ≡ cond (not b || true) [] (y ∷ [])
    by true = refl
    by false = refl
filter_apart y p false = by (p y)
  where
    by : (b : Bool) → cond b (y ∷ []) [] ≡ cond (not b || false) [] (y ∷ [])
    by true = refl
    by false = refl

pub map-filter_agree : {X Y : Type 0} (p : X → Bool) (f g : X → Y) → ((x : X) → p x ≡ true → g x ≡ f x)
    → (xs : List X)
    → map g (filter p xs) ≡ map f (filter p xs)
map-filter_agree p f g same [] = refl
map-filter_agree p f g same (x ∷ xs) = by (p x) (same x) (map-filter_agree p f g same xs)
  where
    by : (b : Bool) → (b ≡ true → g x ≡ f x) → map g (filter p xs) ≡ map f (filter p xs)
        → map g (cond b (x ∷ filter p xs) (filter p xs)) ≡ map f (cond b (x ∷ filter p xs) (filter p xs))
    by true is rest = ap (λ y. y ∷ map g (filter p xs)) (is refl) ∙ ap (λ ys. f x ∷ ys) rest
    by false is rest = rest

pub map-filter_push : {X Y : Type 0} (p : X → Bool) (f : X → Y) (lines : List X) (line : X)
    → map f (filter p (lines ++ line ∷ [])) ≡ map f (filter p lines) ++ cond (p line) (f line ∷ []) []
map-filter_push p f lines line =
    ap (map f) (filter-append p lines (line ∷ []))
    ∙ (map-append f (filter p lines) (filter p (line ∷ []))
    ∙ ap (λ xs. map f (filter p lines) ++ xs) (by (p line)))
  where
    by : (b : Bool) → map f (cond b (line ∷ []) []) ≡ cond b (f line ∷ []) []
    by true = refl
    by false = refl

-- the items at these places
pub filter_map-cond : {X : Type 0} (at : ℕ
    → Option X) (a : ℕ) (x : X) (later : List ℕ) (xs : List X) (b : Bool)
    → at a ≡ Some x → filter_map at later ≡ xs
    → filter_map at (cond b (a ∷ later) later) ≡ cond b (x ∷ xs) xs
filter_map-cond at a x later xs true here rest = ap (λ o. cons_option o (filter_map at later)) here
    ∙ ap (λ ys. x ∷ ys) rest
filter_map-cond at a x later xs false here rest = rest

pub length-filter_cons : {X : Type 0} (p : X → Bool) (x : X) (xs : List X)
    → length (filter p (x ∷ xs)) ≡ cond (p x) 1 0 + length (filter p xs)
length-filter_cons p x xs = by (p x)
  where
    by : (b : Bool) → length (cond b (x ∷ filter p xs) (filter p xs)) ≡ cond b 1 0 + length (filter p xs)
    by true = omega arith
    by false = omega arith

-- those that pass, and the rest
pub length-filter_parts : {X : Type 0} (p : X → Bool) (xs : List X)
    → length (filter (λ x. not (p x)) xs) + length (filter p xs) ≡ length xs
length-filter_parts p [] = refl
length-filter_parts p (x ∷ xs) =
    let out = length-filter_cons (λ x. not (p x)) x xs in
    let inside = length-filter_cons p x xs in
    let later = length-filter_parts p xs in
    by (p x) out inside later
  where
    by : (b : Bool)
        → length (filter (λ x. not (p x)) (x ∷ xs)) ≡ cond (not b) 1 0 + length (filter (λ x. not (p x)) xs)
        → length (filter p (x ∷ xs)) ≡ cond b 1 0 + length (filter p xs)
        → length (filter (λ x. not (p x)) xs) + length (filter p xs) ≡ length xs
        → length (filter (λ x. not (p x)) (x ∷ xs)) + length (filter p (x ∷ xs)) ≡ length (x ∷ xs)
    by true out inside later = omega (arith, out, inside, later)
    by false out inside later = omega (arith, out, inside, later)

pub length-filter_le : {X : Type 0} (p : X → Bool) (xs : List X) → length (filter p xs) ≤ length xs
length-filter_le p xs = omega (arith, length-filter p xs, count_by-le-length p xs)

pub count-kept : {X : Type 0} (p : X → Bool) (xs : List X) (x : X) → p x ≡ false
    → count_by p (xs ++ x ∷ []) ≡ count_by p xs
count-kept p xs x never =
    let more : count_by p (xs ++ x ∷ []) ≡ count_by p xs + (0 + cond (p x) 1 0)
    = sum_by-append (λ x. cond (p x) 1 0) xs (x ∷ []) in
    more ∙ (ap (λ b. count_by p xs + (0 + cond b 1 0)) never ∙ omega arith)

pub count_by-le : {X : Type 0} (p q : X → Bool) → ((x : X) → p x ≡ true → q x ≡ true) → (xs : List X)
    → count_by p xs ≤ count_by q xs
count_by-le p q weaker [] = omega arith
count_by-le p q weaker (x ∷ xs) =
    let first : cond (p x) 1 0 ≤ cond (q x) 1 0 = by (p x) (q x) (weaker x) in
    omega (
      arith,
      first,
      count_by-le p q weaker xs,
      sum_by-cons (λ x. cond (p x) 1 0) x xs,
      sum_by-cons (λ x. cond (q x) 1 0) x xs,
    )
  where
    by : (a b : Bool) → (a ≡ true → b ≡ true) → cond a 1 0 ≤ cond b 1 0
    by true true w = omega arith
    by true false w = absurd (true≢false (sym (w refl)))
    by false b w = omega arith

pub count_by-map : {X Y : Type 0} (p : Y → Bool) (f : X → Y) (xs : List X) → count_by p (map f xs)
    ≡ count_by (λ x. p (f x)) xs
count_by-map p f [] = refl
count_by-map p f (x ∷ xs) = omega (
  arith,
  count_by-map p f xs,
  sum_by-cons (λ y. cond (p y) 1 0) (f x) (map f xs),
  sum_by-cons (λ x. cond (p (f x)) 1 0) x xs,
)

-- a count over a list with one item in front
pub count_by-cons : {X : Type 0} (p : X → Bool) (x : X) (xs : List X)
    → count_by p (x ∷ xs) ≡ one_if (p x) + count_by p xs
count_by-cons p x xs = sum_by-cons (λ y. cond (p y) 1 0) x xs

-- numbers that pass one of two tests are at most those that pass the first and those that pass the second
pub count_by-or : {X : Type 0} (p q : X → Bool) (xs : List X)
    → count_by (λ x. p x || q x) xs ≤ count_by p xs + count_by q xs
count_by-or p q [] = omega arith
count_by-or p q (x ∷ xs) = omega (
  arith,
  count_by-or p q xs,
  count_or-le (p x) (q x),
  count_by-cons (λ y. p y || q y) x xs,
  count_by-cons p x xs,
  count_by-cons q x xs,
)

-- nothing passes a test that always fails
pub count_by-never : {X : Type 0} (xs : List X) → count_by (λ x. false) xs ≡ 0
count_by-never [] = refl
count_by-never (x ∷ xs) = omega (arith, count_by-never xs, count_by-cons (λ x. false) x xs)

-- no slot of an empty list of slots is filled
pub count-empty : (X : Type 0) (n : ℕ) → count_by (is_some {T = X}) (replicate n None) ≡ 0
count-empty X n = sum_by-replicate (λ (o : Option X). cond (is_some o) 1 0) n None ∙ omega arith

-- one slot more is filled, and was not
pub count-filled : {X : Type 0} (slots : List (Option X)) (i : ℕ) (x : X) → slice_get slots i ≡ Some None
    → (count_by is_some (set slots i (Some x)) ≡ count_by is_some slots + 1)
    × (count_by is_some slots < length slots)
count-filled {X} slots i x at =
    let within : i < length slots = slice_get_within slots i None at in
    let was = get_or_from_slice_get slots i None None at in
    let f : Option X → ℕ = λ o. cond (is_some o) 1 0 in
    let sums = sum_by-set f slots i (Some x) None within in
    let none : f (get_or slots i None) ≡ 0 = ap f was in
    let count : count_by is_some (set slots i (Some x)) ≡ count_by is_some slots + 1 = omega arith in
    (count, omega (arith, count_by-le-length is_some (set slots i (Some x)), length-set slots i (Some x)))

-- the list without the first that passes
abbrev pub without_first : {X : Type 0} → (X → Bool) → List X → List X
without_first p [] = []
without_first p (x ∷ xs) = cond (p x) xs (x ∷ without_first p xs)

-- one of those that pass another test goes where they are the same, and none where they differ
pub length-filter_without : {X : Type 0} (p q : X → Bool) (b : Bool) → ((x : X) → p x ≡ true → q x ≡ b)
    → (xs : List X)
    → 0 < length (filter p xs) → length (filter q (without_first p xs)) + cond b 1 0 ≡ length (filter q xs)
length-filter_without p q b same [] some = absurd (omega (arith, some))
length-filter_without p q b same (x ∷ xs) some = by (p x) refl some (length-filter_without p q b same xs)
  where
    by : (c : Bool) → p x ≡ c → 0 < length (cond c (x ∷ filter p xs) (filter p xs))
        → (0 < length (filter p xs)
        → length (filter q (without_first p xs)) + cond b 1 0 ≡ length (filter q xs))
        → length (filter q (cond c xs (x ∷ without_first p xs))) + cond b 1 0 ≡ length (filter q (x ∷ xs))
    by true e some later =
        let here = length-filter_cons q x xs in
        let is : one_if (q x) ≡ one_if b = ap one_if (same x e) in
        omega (arith, here, is)
    by false e some later =
        let here = length-filter_cons q x xs in
        let there = length-filter_cons q x (without_first p xs) in
        let kept = later some in
        omega (arith, here, there, kept)

pub length-without_first : {X : Type 0} (p : X → Bool) (xs : List X) → 0 < length (filter p xs)
    → length (without_first p xs) + 1 ≡ length xs
length-without_first p xs some =
    ap (λ ys. length ys + 1) (sym (filter_always (without_first p xs)))
    ∙ (length-filter_without p (λ x. true) true (λ x e. refl) xs some ∙ ap length (filter_always xs))
