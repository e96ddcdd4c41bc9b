-- Keys in a total order, each once: one key more, and that two such lists with the same keys are one.
use Rattle.std.proofs.Common.{List, Option, Some, [], ap, arith, fold, get_or, inl, inr, length, map, refl}
use Rattle.std.proofs.Common.{slice_get, subst, suc, sym, unwrap_or, ℕ, ◌++◌, ◌+◌, ◌<◌, ◌∙◌, ◌∷◌, ◌≡◌, ◌≤◌}
use Rattle.std.proofs.Common.{◌⊎◌}
use Rattle.std.proofs.lemmas.Cmp.{eq_by_cmp_equiv}
use Rattle.std.proofs.lemmas.List.{get_or_append_left, get_or_push, length-append, length-map}
use Rattle.std.proofs.lemmas.List.Elements.{recursion_from_All}
use Rattle.std.proofs.lemmas.Map.Entries.{lookup_from_place}
use Rattle.std.proofs.lemmas.Map.Keys.{IsDistinct-from_sorted}
use Rattle.std.specs.BTreeMap.{insert_entry}
use Rattle.std.specs.BTreeSet.{insert_key}
use Rattle.std.specs.Cmp.{IsTotalOrder}
use Rattle.std.specs.List.{AllByRecursion, Contains}
use Rattle.std.specs.List.Sorted.{IsNonDecreasing, IsStrictlySortedBy}
use Rattle.std.specs.Map.{keys_of, lookup, values_of}
use Rattle.std.specs.Ordering.{eq_by_cmp, match_ordering, ordering_reverse}
use Rattle.std.specs.declared.cmp.Ordering.{Ordering}
use Rattle.std.specs.declared.cmp.Ordering.TheVariants.{Equal, Greater, Less}
use Rattle.list_lemmas.proofs.Each.{all_has, all_mapped}
use Rattle.list_lemmas.proofs.Maps.{get_or-map_plus}
use Rattle.list_lemmas.proofs.Members.{has_cons, has_here, has_there}
use Rattle.list_lemmas.proofs.Orderings.{not_below_itself}

insert_key-all : {K : Type 0} (cmp : K → K → Ordering) (P : K → Type 0) (ks : List K) (k : K)
    → AllByRecursion P ks → P k → AllByRecursion P (insert_key cmp ks k)
insert_key-all cmp P [] k all p = (p, tt)
insert_key-all {K} cmp P (y ∷ ys) k all p = by (cmp k y) (insert_key-all cmp P ys k all.1 p)
  where
    by : (r : Ordering) → AllByRecursion P (insert_key cmp ys k)
        → AllByRecursion P (match_ordering r (k ∷ y ∷ ys) (y ∷ ys) (y ∷ insert_key cmp ys k))
    by Less rest = (p, all)
    by Equal rest = all
    by Greater rest = (all.0, rest)

insert_key-rises : {K : Type 0} (cmp : K → K → Ordering) → IsTotalOrder cmp → (ks : List K) (k : K)
    → IsStrictlySortedBy cmp ks → IsStrictlySortedBy cmp (insert_key cmp ks k)
unfolding IsStrictlySortedBy
insert_key-rises cmp o [] k up = (tt, tt)
insert_key-rises {K} cmp o (y ∷ ys) k up = by (cmp k y) refl (insert_key-rises cmp o ys k up.1)
  where
    by : (r : Ordering) → cmp k y ≡ r → IsStrictlySortedBy cmp (insert_key cmp ys k)
        → IsStrictlySortedBy cmp (match_ordering r (k ∷ y ∷ ys) (y ∷ ys) (y ∷ insert_key cmp ys k))
    by Less e rest = (
      (e, all_mapped (λ q. cmp y q ≡ Less) (λ q. cmp k q ≡ Less) (λ q h. o.trans k y q e h) ys up.0),
      up,
    )
    by Equal e rest = up
    by Greater e rest = (
      insert_key-all cmp (λ q. cmp y q ≡ Less) ys k up.0 (o.antisymm y k ∙ ap ordering_reverse e),
      rest,
    )

insert_key-has : {K : Type 0} (cmp : K → K → Ordering) (ks : List K) (k x : K)
    → Contains (insert_key cmp ks k) x → (k ≡ x) ⊎ Contains ks x
insert_key-has cmp [] k x c = has_cons k x [] c
insert_key-has {K} cmp (y ∷ ys) k x c = by (cmp k y) (insert_key-has cmp ys k x) c
  where
    by : (r : Ordering) → (Contains (insert_key cmp ys k) x → (k ≡ x) ⊎ Contains ys x)
        → Contains (match_ordering r (k ∷ y ∷ ys) (y ∷ ys) (y ∷ insert_key cmp ys k)) x
        → (k ≡ x) ⊎ Contains (y ∷ ys) x
    by Less rest h = has_cons k x (y ∷ ys) h
    by Equal rest h = inr h
    by Greater rest h = elim (has_cons y x (insert_key cmp ys k) h) [
      | inl e ↦ inr (subst (λ (z : K). Contains (y ∷ ys) z) e (has_here y ys))
      | inr later ↦ elim (rest later) [ inl e ↦ inl e | inr old ↦ inr (has_there y x ys old) ]
    ]

insert_key-keeps : {K : Type 0} (cmp : K → K → Ordering) (ks : List K) (k x : K) → Contains ks x
    → Contains (insert_key cmp ks k) x
insert_key-keeps cmp [] k x c = absurd (omega (arith, c.1))
insert_key-keeps {K} cmp (y ∷ ys) k x c = by (cmp k y) (insert_key-keeps cmp ys k x) c
  where
    by : (r : Ordering) → (Contains ys x → Contains (insert_key cmp ys k) x) → Contains (y ∷ ys) x
        → Contains (match_ordering r (k ∷ y ∷ ys) (y ∷ ys) (y ∷ insert_key cmp ys k)) x
    by Less rest h = has_there k x (y ∷ ys) h
    by Equal rest h = h
    by Greater rest h = elim (has_cons y x ys h) [
      | inl e ↦ subst (λ (z : K). Contains (y ∷ insert_key cmp ys k) z) e (has_here y (insert_key cmp ys k))
      | inr later ↦ has_there y x (insert_key cmp ys k) (rest later)
    ]

insert_key-adds : {K : Type 0} (cmp : K → K → Ordering) → ((x y : K) → cmp x y ≡ Equal → x ≡ y)
    → (ks : List K) (k : K) → Contains (insert_key cmp ks k) k
insert_key-adds cmp same [] k = has_here k []
insert_key-adds {K} cmp same (y ∷ ys) k = by (cmp k y) refl (insert_key-adds cmp same ys k)
  where
    by : (r : Ordering) → cmp k y ≡ r → Contains (insert_key cmp ys k) k
        → Contains (match_ordering r (k ∷ y ∷ ys) (y ∷ ys) (y ∷ insert_key cmp ys k)) k
    by Less e rest = has_here k (y ∷ ys)
    by Equal e rest = subst (λ (z : K). Contains (y ∷ ys) z) (sym (same k y e)) (has_here y ys)
    by Greater e rest = has_there y k (insert_key cmp ys k) rest

pub fold-rises : {K : Type 0} (cmp : K → K → Ordering) → IsTotalOrder cmp → (ks xs : List K)
    → IsStrictlySortedBy cmp ks → IsStrictlySortedBy cmp (fold (insert_key cmp) ks xs)
fold-rises cmp o ks [] up = up
fold-rises cmp o ks (x ∷ xs) up = fold-rises cmp o (insert_key cmp ks x) xs (insert_key-rises cmp o ks x up)

pub fold-has : {K : Type 0} (cmp : K → K → Ordering) (ks xs : List K) (x : K)
    → Contains (fold (insert_key cmp) ks xs) x → Contains ks x ⊎ Contains xs x
fold-has cmp ks [] x c = inl c
fold-has {K} cmp ks (y ∷ ys) x c = elim (fold-has cmp (insert_key cmp ks y) ys x c) [
  | inl old ↦ elim (insert_key-has cmp ks y x old) [
    | inl e ↦ inr (subst (λ (z : K). Contains (y ∷ ys) z) e (has_here y ys))
    | inr before ↦ inl before
  ]
  | inr later ↦ inr (has_there y x ys later)
]

fold-keeps : {K : Type 0} (cmp : K → K → Ordering) (ks xs : List K) (x : K) → Contains ks x
    → Contains (fold (insert_key cmp) ks xs) x
fold-keeps cmp ks [] x c = c
fold-keeps cmp ks (y ∷ ys) x c = fold-keeps cmp (insert_key cmp ks y) ys x (insert_key-keeps cmp ks y x c)

pub fold-adds : {K : Type 0} (cmp : K → K → Ordering) → ((x y : K) → cmp x y ≡ Equal → x ≡ y)
    → (ks xs : List K)
    (x : K) → Contains xs x → Contains (fold (insert_key cmp) ks xs) x
fold-adds cmp same ks [] x c = absurd (omega (arith, c.1))
fold-adds {K} cmp same ks (y ∷ ys) x c = elim (has_cons y x ys c) [
  | inl e ↦ subst (λ (z : K). Contains (fold (insert_key cmp) (insert_key cmp ks y) ys) z) e
      (fold-keeps cmp (insert_key cmp ks y) ys y (insert_key-adds cmp same ks y))
  | inr later ↦ fold-adds cmp same (insert_key cmp ks y) ys x later
]

pub sorted-none : {K : Type 0} (cmp : K → K → Ordering) → IsStrictlySortedBy cmp []
unfolding IsStrictlySortedBy
sorted-none cmp = tt

pub rising-unique : {K : Type 0} (cmp : K → K → Ordering) → IsTotalOrder cmp → (xs ys : List K)
    → IsStrictlySortedBy cmp xs → IsStrictlySortedBy cmp ys
    → ((x : K) → Contains xs x → Contains ys x) → ((x : K) → Contains ys x → Contains xs x) → xs ≡ ys
unfolding IsStrictlySortedBy
rising-unique cmp o [] [] up down to from = refl
rising-unique cmp o [] (y ∷ ys) up down to from = absurd (omega (arith, (from y (has_here y ys)).1))
rising-unique cmp o (x ∷ xs) [] up down to from = absurd (omega (arith, (to x (has_here x xs)).1))
rising-unique {K} cmp o (x ∷ xs) (y ∷ ys) up down to from =
    let first : x ≡ y = elim (has_cons y x ys (to x (has_here x xs))) [
      | inl e ↦ sym e
      | inr x_later ↦ elim (has_cons x y xs (from y (has_here y ys))) [
        | inl e ↦ e
        | inr y_later ↦ not_below_itself cmp o x (o.trans x y x
            (all_has (λ q. cmp x q ≡ Less) xs y up.0 y_later)
            (all_has (λ q. cmp y q ≡ Less) ys x down.0 x_later)) (x ≡ y)
      ]
    ] in
    let rest : xs ≡ ys = rising-unique cmp o xs ys up.1 down.1
    (λ z c. elim (has_cons y z ys (to z (has_there x z xs c))) [
      | inl e ↦ not_below_itself cmp o x (subst (λ (q : K). cmp x q ≡ Less) (sym (first ∙ e))
          (all_has (λ q. cmp x q ≡ Less) xs z up.0 c)) (Contains ys z)
      | inr later ↦ later
    ])
    (λ z c. elim (has_cons x z xs (from z (has_there y z ys c))) [
      | inl e ↦ not_below_itself cmp o y (subst (λ (q : K). cmp y q ≡ Less) (sym (sym first ∙ e))
          (all_has (λ q. cmp y q ≡ Less) ys z down.0 c)) (Contains xs z)
      | inr later ↦ later
    ]) in
    ap (λ (q : K). q ∷ xs) first ∙ ap (λ (qs : List K). y ∷ qs) rest

-- a key put among others is read as it is put among what they are read as
pub map-insert_key : {K L : Type 0} (read : K → L) (cmp : L → L → Ordering) (ks : List K) (k : K)
    → map read (insert_key (λ x y. cmp (read x) (read y)) ks k) ≡ insert_key cmp (map read ks) (read k)
map-insert_key read cmp [] k = refl
map-insert_key read cmp (x ∷ xs) k = by (cmp (read k) (read x)) (map-insert_key read cmp xs k)
  where
    by : (r : Ordering)
        → map read (insert_key (λ x y. cmp (read x) (read y)) xs k) ≡ insert_key cmp (map read xs) (read k)
        → map read (match_ordering r (k ∷ x ∷ xs) (x ∷ xs)
        (x ∷ insert_key (λ x y. cmp (read x) (read y)) xs k))
        ≡ match_ordering r (read k ∷ read x ∷ map read xs) (read x ∷ map read xs)
        (read x ∷ insert_key cmp (map read xs) (read k))
    by Less rest = refl
    by Equal rest = refl
    by Greater rest = ap (λ ys. read x ∷ ys) rest

pub keys_of-insert_entry : {K X : Type 0} (cmp : K → K → Ordering) (es : List (K × X)) (k : K) (v : X)
    → keys_of (insert_entry cmp es k v) ≡ insert_key cmp (keys_of es) k
keys_of-insert_entry cmp [] k v = refl
keys_of-insert_entry cmp (e ∷ es) k v = by (cmp k e.0) (keys_of-insert_entry cmp es k v)
  where
    by : (r : Ordering) → keys_of (insert_entry cmp es k v) ≡ insert_key cmp (keys_of es) k
        → keys_of (match_ordering r ((k, v) ∷ e ∷ es) ((e.0, v) ∷ es) (e ∷ insert_entry cmp es k v))
        ≡ match_ordering r (k ∷ e.0 ∷ keys_of es) (e.0 ∷ keys_of es) (e.0 ∷ insert_key cmp (keys_of es) k)
    by Less rest = refl
    by Equal rest = refl
    by Greater rest = ap (λ ks. e.0 ∷ ks) rest

values_by_place : {K X : Type 0} (f : K → X) (es : List (K × X))
    → ((i : ℕ) (k : K) (v : X) → slice_get es i ≡ Some (k, v) → v ≡ f k) → values_of es ≡ map f (keys_of es)
values_by_place f [] h = refl
values_by_place {K} {X} f (e ∷ es) h =
    ap (λ (v : X). v ∷ values_of es) (h 0 e.0 e.1 refl) ∙ ap (λ (vs : List X). f e.0 ∷ vs)
    (values_by_place f es (λ i k v g. h (suc i) k v g))

-- the values of different keys, where each is what f gives of its key
pub values_by_key : {K X : Type 0} (cmp : K → K → Ordering) → IsTotalOrder cmp
    → (f : K → X) (g : K → X) (es : List (K × X)) → IsStrictlySortedBy cmp (keys_of es)
    → ((q : K) → unwrap_or (lookup (eq_by_cmp cmp q) es) (g q) ≡ f q) → values_of es ≡ map f (keys_of es)
values_by_key {K} {X} cmp o f g es up h =
    values_by_place f es (λ i k v e. sym
    (ap (λ (x : Option X). unwrap_or x (g k))
    (lookup_from_place (eq_by_cmp_equiv o) es i k v (IsDistinct-from_sorted cmp (keys_of es) up) e)) ∙ h
    k)

pub IsNonDecreasing-map_plus : (a b : ℕ) (xs : List ℕ) → IsNonDecreasing (map (λ n. n + a) xs)
    → IsNonDecreasing (map (λ n. n + b) xs)
IsNonDecreasing-map_plus a b xs h i j d low high =
    let short : j < length xs = omega (arith, high, length-map xs (λ (n : ℕ). n + b)) in
    let here = h i j d low (omega (arith, short, length-map xs (λ (n : ℕ). n + a))) in
    omega (
      arith,
      get_or-map_plus a i d xs (omega (arith, short, low)),
      get_or-map_plus a j d xs short,
      get_or-map_plus b i d xs (omega (arith, short, low)),
      get_or-map_plus b j d xs short,
      here,
    )

pub IsNonDecreasing-rest : (a : ℕ) (xs : List ℕ) → IsNonDecreasing (a ∷ xs) → IsNonDecreasing xs
IsNonDecreasing-rest a xs in_order = λ i j d up within. in_order (suc i) (suc j) d (omega (arith, up))
    (omega (arith, within))

pub before_last : (xs : List ℕ) (end : ℕ) → IsNonDecreasing (xs ++ end ∷ [])
    → AllByRecursion (λ n. n ≤ end) xs
before_last xs end order = recursion_from_All (λ n. n ≤ end) xs (λ k d within.
    let count = length-append xs (end ∷ []) in
    let last : get_or (xs ++ end ∷ []) (length xs) d ≡ end = get_or_push xs end d (length xs) refl in
    let here : get_or (xs ++ end ∷ []) k d ≡ get_or xs k d = get_or_append_left xs (end ∷ []) d k within in
    let ordered = order k (length xs) d (omega (arith, within)) (omega (arith, count)) in
    omega (arith, last, here, ordered))
