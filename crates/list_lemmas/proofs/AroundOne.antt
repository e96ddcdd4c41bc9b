-- What changes in a filtered list of numbers where a test changes at one of them alone.
use Rattle.std.proofs.Common.{Bool, List, [], ap, append_assoc, ap₂, arith, cond, eqb, false, filter, inl}
use Rattle.std.proofs.Common.{inr, map, refl, suc, sum_by, sym, true, zero, ℕ, ◌++◌, ◌+◌, ◌<◌, ◌∙◌, ◌∷◌, ◌≡◌}
use Rattle.std.proofs.Common.{◌≤◌}
use Rattle.std.proofs.lemmas.Bool.Decides.{eqb_tells, nat_tests}
use Rattle.std.proofs.lemmas.List.{append-nil}
use Rattle.std.proofs.lemmas.List.Elements.{filter-append, filter_agree}
use Rattle.std.proofs.lemmas.List.Sums.{sum_by-append, sum_by-cons}
use Rattle.std.specs.List.{range_with_len}

-- the number is not in the list
pub data Lacks (id : ℕ) : List ℕ → Type 0 where
  none : Lacks id []
  more : (x : ℕ) (xs : List ℕ) (other : eqb id x ≡ false) (rest : Lacks id xs) → Lacks id (x ∷ xs)

pub range_above : (a n id : ℕ) → id < a → Lacks id (range_with_len a n)
range_above a zero id lt = none
range_above a (suc n) id lt = more a _ (grind (arith, nat_tests)) (range_above (a + 1) n id (omega arith))

pub range_below : (a n id : ℕ) → a + n ≤ id → Lacks id (range_with_len a n)
range_below a zero id le = none
range_below a (suc n) id le = more a _ (grind (arith, nat_tests)) (range_below (a + 1) n id (omega arith))

-- the range around one of its numbers
range_around : (a n id : ℕ) → a ≤ id → id < a + n → (before after : List ℕ)
    × (range_with_len a n ≡ before ++ id ∷ after) × Lacks id before × Lacks id after
range_around a zero id low high = absurd (omega arith)
range_around a (suc n) id low high =
    elim (eqb_tells id a) [
      | inl same ↦ (
        [],
        range_with_len (a + 1) n,
        ap (λ x. x ∷ range_with_len (a + 1) n) (sym same.1),
        none,
        range_above (a + 1) n id (omega arith),
      )
      | inr other ↦
          let rest = range_around (a + 1) n id (omega arith) (omega arith) in
          (a ∷ rest.0, rest.1, ap (λ xs. a ∷ xs) rest.2, more a _ other.0 rest.3, rest.4)
    ]

-- the tests agree but at this number
abbrev pub AgreeBut : {X : Type 0} → ℕ → (ℕ → X) → (ℕ → X) → Type 0
AgreeBut id f g = (x : ℕ) → eqb id x ≡ false → g x ≡ f x

pub filter_same : (p q : ℕ → Bool) (id : ℕ) (xs : List ℕ) → AgreeBut id p q → Lacks id xs
    → filter q xs ≡ filter p xs
filter_same p q id [] agree lacks = refl
filter_same p q id (x ∷ xs) agree (more y ys other rest) = ap₂ (λ b zs. cond b (x ∷ zs) zs) (agree x other)
    (filter_same p q id xs agree rest)

pub map_same : {X : Type 0} (f g : ℕ → X) (id : ℕ) (xs : List ℕ) → AgreeBut id f g → Lacks id xs
    → map g xs ≡ map f xs
map_same f g id [] agree lacks = refl
map_same f g id (x ∷ xs) agree (more y ys other rest) = ap₂ ◌∷◌ (agree x other)
    (map_same f g id xs agree rest)

pub sum_same : (f g : ℕ → ℕ) (id : ℕ) (xs : List ℕ) → AgreeBut id f g → Lacks id xs
    → sum_by g xs ≡ sum_by f xs
sum_same f g id [] agree lacks = refl
sum_same f g id (x ∷ xs) agree (more y ys other rest) = sum_by-cons g x xs ∙ ap₂ ◌+◌ (agree x other)
    (sum_same f g id xs agree rest) ∙ sym (sum_by-cons f x xs)

pub Lacks-filter : (p : ℕ → Bool) (id : ℕ) (xs : List ℕ) → Lacks id xs → Lacks id (filter p xs)
Lacks-filter p id [] lacks = none
Lacks-filter p id (x ∷ xs) (more y ys other rest) =
    elim (p x) as (λ b. Lacks id (cond b (x ∷ filter p xs) (filter p xs)))
    [ true ↦ more x _ other (Lacks-filter p id xs rest) | false ↦ Lacks-filter p id xs rest ]

-- the two lists, around the number
pub record Around (p q : ℕ → Bool) (id : ℕ) (xs : List ℕ) : Type 0 where
  pub front : List ℕ
  pub back : List ℕ
  pub old : filter p xs ≡ front ++ cond (p id) (id ∷ []) [] ++ back
  pub new : filter q xs ≡ front ++ cond (q id) (id ∷ []) [] ++ back
  pub lacks_front : Lacks id front
  pub lacks_back : Lacks id back

filter-around : (p : ℕ → Bool) (id : ℕ) (before after : List ℕ) → filter p (before ++ id ∷ after) ≡ filter p
    before ++ cond (p id) (id ∷ []) [] ++ filter p after
filter-around p id before after = filter-append p before (id ∷ after) ∙ elim (p id) as (λ b. filter p before
    ++ cond b (id ∷ filter p after) (filter p after) ≡ filter p before ++ cond b (id ∷ []) []
    ++ filter p after) [
      | true ↦ sym (append_assoc (filter p before) (id ∷ []) (filter p after))
      | false ↦ ap (λ xs. xs ++ filter p after) (sym (append-nil (filter p before)))
    ]

pub filters_around : (p q : ℕ → Bool) (id a n : ℕ) → AgreeBut id p q → a ≤ id → id < a + n
    → Around p q id (range_with_len a n)
filters_around p q id a n agree low high =
    let parts = range_around a n id low high in
    record {
      front = filter p parts.0;
      back = filter p parts.1;
      old = ap (filter p) parts.2 ∙ filter-around p id parts.0 parts.1;
      new = ap (filter q) parts.2 ∙ filter-around q id parts.0 parts.1 ∙ ap₂
          (λ xs ys. xs ++ cond (q id) (id ∷ []) [] ++ ys) (filter_same p q id parts.0 agree parts.3)
          (filter_same p q id parts.1 agree parts.4);
      lacks_front = Lacks-filter p id parts.0 parts.3;
      lacks_back = Lacks-filter p id parts.1 parts.4;
    }

-- a sum over three parts, with at most one number in the middle
pub sum_around : {X : Type 0} (f : X → ℕ) (front back : List X) (b : Bool) (id : X)
    → sum_by f (front ++ cond b (id ∷ []) [] ++ back) ≡ sum_by f front + cond b (f id) 0 + sum_by f back
sum_around f front back b id =
    let mid : sum_by f (cond b (id ∷ []) []) ≡ cond b (f id) 0 = elim b as
    (λ b. sum_by f (cond b (id ∷ []) []) ≡ cond b (f id) 0)
    [ true ↦ sum_by-cons f id [] ∙ omega arith | false ↦ refl ] in
    sum_by-append f (front ++ cond b (id ∷ []) []) back ∙ ap (λ n. n + sum_by f back)
    (sum_by-append f front (cond b (id ∷ []) []) ∙ ap (λ n. sum_by f front + n) mid)

-- a sum over those that pass loses what one of them adds, where it no longer passes
pub sum_without : (f : ℕ → ℕ) (p q : ℕ → Bool) (id a n : ℕ) → AgreeBut id p q → q id ≡ false
    → (p id ≡ true → (a ≤ id) × (id < a + n)) → sum_by f (filter p (range_with_len a n))
    ≡ sum_by f (filter q (range_with_len a n)) + cond (p id) (f id) 0
sum_without f p q id a n agree failed within = go (p id) refl
  where
    go : (b : Bool) → p id ≡ b → sum_by f (filter p (range_with_len a n))
        ≡ sum_by f (filter q (range_with_len a n)) + cond b (f id) 0
    go true passed =
        let parts = filters_around p q id a n agree (within passed).0 (within passed).1 in
        let was = ap (sum_by f) parts.old ∙ sum_around f parts.front parts.back (p id) id in
        let is = ap (sum_by f) parts.new ∙ sum_around f parts.front parts.back (q id) id in
        let one : cond (p id) (f id) 0 ≡ f id = ap (λ b. cond b (f id) 0) passed in
        let none : cond (q id) (f id) 0 ≡ 0 = ap (λ b. cond b (f id) 0) failed in
        omega (arith, was, is, one, none)
    go false fails =
        let same : (x : ℕ) → p x ≡ q x = λ x. elim (eqb_tells id x) [
          | inl this ↦ ap p (sym this.1) ∙ fails ∙ sym failed ∙ ap q this.1
          | inr other ↦ sym (agree x other.0)
        ] in
        omega (arith, ap (sum_by f) (filter_agree p q same (range_with_len a n)))
