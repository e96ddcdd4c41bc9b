-- Ranges of numbers, and lists made of them.
use Rattle.std.proofs.Common.{Bool, List, Option, Some, [], add-one, add-zero, ap, append-nil, append_assoc}
use Rattle.std.proofs.Common.{arith, cond, count_by, eqb, false, filter, find, inl, inr, length, map, refl}
use Rattle.std.proofs.Common.{slice_get, slice_set, subst, suc, sum_by, sym, true, zero, ℕ, ◌++◌, ◌+◌, ◌-◌}
use Rattle.std.proofs.Common.{◌<◌, ◌||◌, ◌∙◌, ◌∷◌, ◌≡◌, ◌≤◌}
use Rattle.std.proofs.lemmas.Bool.{cases_eq}
use Rattle.std.proofs.lemmas.Bool.Decides.{eqb_tells}
use Rattle.std.proofs.lemmas.List.{length-append}
use Rattle.std.proofs.lemmas.List.Elements.{filter_map-append}
use Rattle.std.proofs.lemmas.List.FromFn.{filter_of_map_range_with_len_more, get_or-range_with_len}
use Rattle.std.proofs.lemmas.List.FromFn.{length-map-range_with_len, length-range_with_len}
use Rattle.std.proofs.lemmas.List.FromFn.{map-range_with_len_more}
use Rattle.std.proofs.lemmas.List.Sums.{sum_by-cons, sum_by_push}
use Rattle.std.proofs.lemmas.Option.{get_or_from_slice_get, slice_get-get_or, slice_get_within}
use Rattle.std.specs.List.{AllByRecursion, cons_option, filter_map, flat_map, list_any, range_with_len}
use Rattle.std.specs.List.Sorted.{IsStrictlySortedBy}
use Rattle.std.specs.Ordering.{nat_cmp}
use Rattle.std.specs.declared.cmp.Ordering.TheVariants.{Less}
use Rattle.list_lemmas.proofs.Each.{all_append, all_mapped}
use Rattle.list_lemmas.proofs.Maps.{flat_map-push}
use Rattle.list_lemmas.proofs.Numbers.{Less-from_lt}
use Rattle.list_lemmas.proofs.Positions.{slice_get-append_left, slice_get-append_right}

pub range_with_len-suc : (a n : ℕ) → range_with_len a (suc n) ≡ range_with_len a n ++ (a + n) ∷ []
range_with_len-suc a zero = ap (λ (m : ℕ). m ∷ []) (sym (add-zero a))
range_with_len-suc a (suc n) =
    let same : (a + 1) + n ≡ a + suc n = omega arith in
    ap (λ (xs : List ℕ). a ∷ xs) (range_with_len-suc (a + 1) n ∙ ap (λ (m : ℕ). range_with_len (a + 1) n ++ m
    ∷ []) same)

pub range_with_len-more : (a n j : ℕ) → a + n ≡ j → range_with_len a (n + 1) ≡ range_with_len a n ++ j ∷ []
range_with_len-more a n j e = rw add-one
    (range_with_len-suc a n ∙ ap (λ (m : ℕ). range_with_len a n ++ m ∷ []) e)

pub range_with_len-push : (n : ℕ) → range_with_len 0 (suc n) ≡ range_with_len 0 n ++ n ∷ []
range_with_len-push n = rw add-one at (range_with_len-more 0 n n (omega arith))

pub range_with_len-parts : (n m a k : ℕ) → k ≡ n + m
    → range_with_len a k ≡ range_with_len a n ++ range_with_len (a + n) m
range_with_len-parts zero m a k e =
    let same : k ≡ m = omega arith in
    let from : a ≡ a + 0 = omega arith in
    ap (λ (x : ℕ). range_with_len a x) same ∙ ap (λ (x : ℕ). range_with_len x m) from
range_with_len-parts (suc n) m a zero e = absurd (omega arith)
range_with_len-parts (suc n) m a (suc k) e =
    let from : a + 1 + n ≡ a + suc n = omega arith in
    ap (λ (l : List ℕ). a ∷ l) (range_with_len-parts n m (a + 1) k (omega arith))
    ∙ ap (λ (x : ℕ). a ∷ range_with_len (a + 1) n ++ range_with_len x m) from

range_with_len-first : (i n : ℕ) → i < n → range_with_len i (n - i) ≡ i ∷ range_with_len (i + 1) (n - (i + 1))
range_with_len-first i n small = ap (range_with_len i) more
  where
    more : n - i ≡ suc (n - (i + 1))
    more = omega (arith, small)

pub range_within : (first n limit : ℕ) → first + n ≤ limit + 1
    → AllByRecursion (λ f. (first ≤ f) × (f ≤ limit)) (range_with_len first n)
range_within first zero limit within = tt
range_within first (suc n) limit within = (
  (omega arith, omega (arith, within)),
  all_mapped (λ f. (first + 1 ≤ f) × (f ≤ limit)) (λ f. (first ≤ f) × (f ≤ limit))
      (λ f both. (omega (arith, both.0), both.1)) (range_with_len (first + 1) n)
      (range_within (first + 1) n limit (omega (arith, within))),
)

pub range_get : (a n i at : ℕ) → a + i ≡ at → i < n → slice_get (range_with_len a n) i ≡ Some at
range_get a zero i at is within = absurd (omega (arith, within))
range_get a (suc n) zero at is within = ap Some (omega (arith, is))
range_get a (suc n) (suc i) at is within = range_get (a + 1) n i at (omega (arith, is)) (omega
    (arith, within))

pub range_get-first : (n k : ℕ) → k < n → slice_get (range_with_len 0 n) k ≡ Some k
range_get-first n k low =
    slice_get-get_or (range_with_len 0 n) k 0 (omega (arith, low, length-range_with_len 0 n))
    ∙ ap (λ x. Some x) (get_or-range_with_len 0 n k 0 low ∙ omega arith)

pub range_at : (n k x : ℕ) → slice_get (range_with_len 0 n) k ≡ Some x → x ≡ k
range_at n k x at =
    let within : k < length (range_with_len 0 n) = slice_get_within (range_with_len 0 n) k x at in
    sym (get_or_from_slice_get (range_with_len 0 n) k x 0 at)
    ∙ (get_or-range_with_len 0 n k 0 (omega (arith, within, length-range_with_len 0 n)) ∙ omega arith)

-- what is at an index of a list that a function of the indexes makes
pub range_item : {X : Type 0} (f : ℕ → X) (a n i j : ℕ) → i < n → a + i ≡ j
    → slice_get (map f (range_with_len a n)) i ≡ Some (f j)
range_item f a zero i j below is = absurd (omega arith)
range_item f a (suc n) zero j below is = ap (λ k. Some (f k)) (let same : a ≡ j = omega arith in same)
range_item f a (suc n) (suc i) j below is = range_item f (a + 1) n i j (omega arith) (omega arith)

pub all_range : (P : ℕ → Type 0) (n : ℕ) → ((k : ℕ) → k < n → P k) → AllByRecursion P (range_with_len 0 n)
all_range P zero holds = tt
all_range P (suc n) holds = subst (AllByRecursion P) (sym (range_with_len-push n))
    (all_append P (range_with_len 0 n) (n ∷ []) (all_range P n (λ k l. holds k (omega (arith, l))))
    (holds n (omega arith), tt))

pub in_range : (a n x : ℕ) → list_any (λ other. eqb other x) (range_with_len a n) ≡ true → (a ≤ x)
    × (x < a + n)
in_range a zero x any = absurd cc
in_range a (suc n) x any =
    elim (eqb_tells a x) [
      | inl same ↦ (omega arith, omega arith)
      | inr other ↦
          let rest : list_any (λ other. eqb other x) (range_with_len (a + 1) n) ≡ true =
          sym (ap (λ b. b || list_any (λ other. eqb other x) (range_with_len (a + 1) n)) other.0) ∙ any in
          let within = in_range (a + 1) n x rest in
          (omega arith, omega arith)
    ]

-- the least number of a range that passes
pub range_find : (p : ℕ → Bool) (n a j : ℕ) → a ≤ j → j < a + n → p j ≡ true
    → ((i : ℕ) → a ≤ i → i < j → p i ≡ false)
    → find p (range_with_len a n) ≡ Some j
range_find p zero a j low high here before = absurd (omega arith)
range_find p (suc n) a j low high here before =
    elim (cases_eq a j) [
      | inl same ↦ ap (λ (b : Bool). cond b (Some a) (find p (range_with_len (a + 1) n)))
          (subst (λ (k : ℕ). p k ≡ true) (sym same) here) ∙ ap (λ (k : ℕ). let o : Option ℕ = Some k in o)
          same
      | inr other ↦ ap (λ (b : Bool). cond b (Some a) (find p (range_with_len (a + 1) n)))
          (before a (omega arith) (omega (arith, other)))
          ∙ range_find p n (a + 1) j (omega (arith, other)) (omega arith) here
          (λ i l h. before i (omega arith) h)
    ]

pub range_filter-agree : (p q : ℕ → Bool) (a n : ℕ) → ((i : ℕ) → a ≤ i → i < a + n → p i ≡ q i)
    → filter p (range_with_len a n) ≡ filter q (range_with_len a n)
range_filter-agree p q a zero same = refl
range_filter-agree p q a (suc n) same =
    ap (λ b. cond b (a ∷ filter p (range_with_len (a + 1) n)) (filter p (range_with_len (a + 1) n)))
    (same a (omega arith) (omega arith))
    ∙ ap (λ is. cond (q a) (a ∷ is) is) (range_filter-agree p q (a + 1) n
    (λ i behind within. same i (omega arith) (omega arith)))

pub range_filter-none : (a n : ℕ) (p : ℕ → Bool) → ((i : ℕ) → p i ≡ false)
    → filter p (range_with_len a n) ≡ []
range_filter-none a zero p fails = refl
range_filter-none a (suc n) p fails = ap (λ b. cond b (a ∷ filter p (range_with_len (a + 1) n))
    (filter p (range_with_len (a + 1) n))) (fails a) ∙ range_filter-none (a + 1) n p fails

-- sums over ranges of numbers
pub range_sum-same : (f g : ℕ → ℕ) (a n : ℕ) → ((i : ℕ) → a ≤ i → i < a + n → f i ≡ g i)
    → sum_by f (range_with_len a n) ≡ sum_by g (range_with_len a n)
range_sum-same f g a zero h = refl
range_sum-same f g a (suc n) h = sum_by-cons f a (range_with_len (a + 1) n)
    ∙ omega (
      arith,
      h a (omega arith) (omega arith),
      range_sum-same f g (a + 1) n (λ i l m. h i (omega arith) (omega arith)),
    )
    ∙ sym (sum_by-cons g a (range_with_len (a + 1) n))

pub range_sum-next : (f : ℕ → ℕ) (a n : ℕ) → sum_by f (range_with_len (a + 1) n) ≡ sum_by (λ i. f (i + 1))
    (range_with_len a n)
range_sum-next f a zero = refl
range_sum-next f a (suc n) = sum_by-cons f (a + 1) (range_with_len (a + 1 + 1) n)
    ∙ ap (λ m. f (a + 1) + m) (range_sum-next f (a + 1) n)
    ∙ sym (sum_by-cons (λ i. f (i + 1)) a (range_with_len (a + 1) n))

-- the values over a range, of which none changes
range_same : {X : Type 0} (f g : ℕ → X) (a n : ℕ) → ((j : ℕ) → a ≤ j → f j ≡ g j)
    → map f (range_with_len a n) ≡ map g (range_with_len a n)
range_same f g a zero same = refl
range_same f g a (suc n) same = ap (λ x. x ∷ map f (range_with_len (a + 1) n)) (same a (omega arith))
    ∙ ap (λ xs. g a ∷ xs) (range_same f g (a + 1) n (λ j past. same j (omega (arith, past))))

-- the values over a range, of which one changes
pub range_changed : {X : Type 0} (f g : ℕ → X) (a n k : ℕ) → k < n → ((j : ℕ) → (j ≡ a + k → ⊥) → f j ≡ g j)
    → slice_set (map f (range_with_len a n)) k (g (a + k)) ≡ map g (range_with_len a n)
range_changed f g a zero k small same = elim (none k small) [ ]
  where
    none : (k : ℕ) → k < 0 → ⊥
    none k small = omega (arith, small)
range_changed f g a (suc n) zero small same = ap (λ x. x ∷ map f (range_with_len (a + 1) n)) (ap g at)
    ∙ ap (λ xs. g a ∷ xs) (range_same f g (a + 1) n (λ j past. same j (λ is. omega (arith, past, is))))
  where
    at : a + 0 ≡ a
    at = omega arith
range_changed {X} f g a (suc n) (suc k) small same =
    let later : List X = map f (range_with_len (a + 1) n) in
    let moved : a + suc k ≡ a + 1 + k = omega arith in
    ap (λ x. x ∷ slice_set later k (g (a + suc k))) (same a (λ is. omega (arith, is)))
    ∙ ap (λ xs. g a ∷ xs) (ap (λ v. slice_set later k (g v)) moved
    ∙ range_changed f g (a + 1) n k (omega (arith, small)) (λ j other. same j (λ is. other (omega (
      arith,
      is,
    )))))

-- a range from a greater number on lies behind
range_cmp_above : (a b n : ℕ) → a < b → AllByRecursion (λ y. nat_cmp a y ≡ Less) (range_with_len b n)
range_cmp_above a b zero lt = tt
range_cmp_above a b (suc n) lt = (Less-from_lt a b lt, range_cmp_above a (b + 1) n (omega arith))

-- a range rises
pub range_rises : (a n : ℕ) → IsStrictlySortedBy nat_cmp (range_with_len a n)
unfolding IsStrictlySortedBy
range_rises a zero = tt
range_rises a (suc n) = (range_cmp_above a (a + 1) n (omega arith), range_rises (a + 1) n)

-- one more number of a range, where what is made of it passes, or doesn't
pub filter_of_range-kept : {X : Type 0} (p : X → Bool) (f : ℕ → X) (a n j : ℕ) (x : X) (xs ys : List X) → a
    + n ≡ j → xs ≡ filter p (map f (range_with_len a n)) → x ≡ f j → p x ≡ true → ys ≡ xs ++ x ∷ []
    → ys ≡ filter p (map f (range_with_len a (n + 1)))
filter_of_range-kept p f a n j x xs ys e h k t m = rw (
  filter_of_map_range_with_len_more p f a n j e,
  ← k,
  ← h,
  t,
) m

pub filter_of_range-left : {X : Type 0} (p : X → Bool) (f : ℕ → X) (a n j : ℕ) (x : X) (xs : List X) → a
    + n ≡ j → xs ≡ filter p (map f (range_with_len a n)) → x ≡ f j → p x ≡ false
    → xs ≡ filter p (map f (range_with_len a (n + 1)))
filter_of_range-left p f a n j x xs e h k t = rw (
  filter_of_map_range_with_len_more p f a n j e,
  ← k,
  t,
  append-nil,
) h

-- one more number of a range, each made into an item
pub map_of_range-more : {X : Type 0} (f : ℕ → X) (a n j : ℕ) (x : X) (xs ys : List X) → a + n ≡ j
    → xs ≡ map f (range_with_len a n) → x ≡ f j → ys ≡ xs ++ x ∷ [] → ys ≡ map f (range_with_len a (n + 1))
map_of_range-more f a n j x xs ys e k h m = rw (map-range_with_len_more f a n j e, ← k, ← h) m

pub filter_map-range_more : {X : Type 0} (h : ℕ → Option X) (n : ℕ)
    → filter_map h (range_with_len 0 (n + 1)) ≡
    filter_map h (range_with_len 0 n) ++ cons_option (h n) []
filter_map-range_more h n =
    let same : 0 + n ≡ n = omega arith in
    ap (filter_map h) (range_with_len-more 0 n n same) ∙ filter_map-append h (range_with_len 0 n) (n ∷ [])

pub count_by-range-more : (p : ℕ → Bool) (n : ℕ) → count_by p (range_with_len 0 (n + 1)) ≡ count_by p
    (range_with_len 0 n) + cond (p n) 1 0
count_by-range-more p n = ap (count_by p) (range_with_len-more 0 n n (omega arith)) ∙ sum_by_push
    (λ x. cond (p x) 1 0) (range_with_len 0 n) n

-- one number more
pub flat_range_more : {X : Type 0} (f : ℕ → List X) (n : ℕ)
    → flat_map f (range_with_len 0 n) ++ f n ≡ flat_map f (range_with_len 0 (n + 1))
flat_range_more f n = sym (ap (flat_map f) (range_with_len-more 0 n n (omega arith))
    ∙ flat_map-push f (range_with_len 0 n) n)

-- what is there so far and what is left make up all of it, with one number more as before
pub left_next : {X : Type 0} (f : ℕ → X) (i n : ℕ) (so_far after all : List X) (item : X) → i < n → item ≡ f i
    → after ≡ so_far ++ item ∷ [] → so_far ++ map f (range_with_len i (n - i)) ≡ all
    → after ++ map f (range_with_len (i + 1) (n - (i + 1))) ≡ all
left_next f i n so_far after all item small is added before =
    ap (λ (xs : List _). xs ++ map f (range_with_len (i + 1) (n - (i + 1)))) added
    ∙ (append_assoc so_far (item ∷ []) (map f (range_with_len (i + 1) (n - (i + 1))))
    ∙ (ap (λ x. so_far ++ x ∷ map f (range_with_len (i + 1) (n - (i + 1)))) is
    ∙ (ap (λ (js : List ℕ). so_far ++ map f js) (sym (range_with_len-first i n small)) ∙ before)))

abbrev pub two_ranges : {X : Type 0} → (ℕ → X) → (ℕ → X) → ℕ → ℕ → List X
two_ranges f g i j = map f (range_with_len 0 i) ++ map g (range_with_len 0 j)

pub two_ranges-first_more : {X : Type 0} (f g : ℕ → X) (i : ℕ)
    → two_ranges f g i 0 ++ f i ∷ [] ≡ two_ranges f g (i + 1) 0
two_ranges-first_more f g i = ap (λ xs. xs ++ f i ∷ []) (append-nil (map f (range_with_len 0 i)))
    ∙ (sym (map-range_with_len_more f 0 i i (omega arith))
    ∙ sym (append-nil (map f (range_with_len 0 (i + 1)))))

pub two_ranges-second_more : {X : Type 0} (f g : ℕ → X) (i j : ℕ)
    → two_ranges f g i j ++ g j ∷ [] ≡ two_ranges f g i (j + 1)
two_ranges-second_more f g i j = append_assoc (map f (range_with_len 0 i)) (map g (range_with_len 0 j)) (g j ∷
    [])
    ∙ ap (λ xs. map f (range_with_len 0 i) ++ xs) (sym (map-range_with_len_more g 0 j j (omega arith)))

pub two_ranges-length : {X : Type 0} (f g : ℕ → X) (i j : ℕ) → length (two_ranges f g i j) ≡ i + j
two_ranges-length f g i j =
    let joined = length-append (map f (range_with_len 0 i)) (map g (range_with_len 0 j)) in
    let first = length-map-range_with_len f 0 i in
    let second = length-map-range_with_len g 0 j in
    omega (arith, joined, first, second)

pub two_ranges-first_get : {X : Type 0} (f g : ℕ → X) (i j k : ℕ) → k < i
    → slice_get (two_ranges f g i j) k ≡ Some (f k)
two_ranges-first_get f g i j k within =
    let count = length-map-range_with_len f 0 i in
    slice_get-append_left (map f (range_with_len 0 i)) (map g (range_with_len 0 j)) k (omega (
      arith,
      count,
      within,
    ))
    ∙ ((range_item f 0 i k (0 + k) within refl) ∙ ap (λ n. Some (f n)) (omega arith))

pub two_ranges-second_get : {X : Type 0} (f g : ℕ → X) (i j k : ℕ) → k < j
    → slice_get (two_ranges f g i j) (i + k)
    ≡ Some (g k)
two_ranges-second_get f g i j k within =
    let count = length-map-range_with_len f 0 i in
    slice_get-append_right (map f (range_with_len 0 i)) (map g (range_with_len 0 j)) k (i + k) (omega (
      arith,
      count,
    ))
    ∙ ((range_item g 0 j k (0 + k) within refl) ∙ ap (λ n. Some (g n)) (omega arith))
