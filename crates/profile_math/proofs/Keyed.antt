-- Items in the order of their keys: at each key those that have it, and what they are together. A list in
-- order is fixed by what it has at each key; two lists merged have at each key what both have there.
use Rattle.std.proofs.Common.{◌≡◌, Bool, true, false, List, [], ◌∷◌, ◌++◌, map, filter}
use Rattle.std.proofs.Common.{refl, ap}
use Rattle.std.proofs.Common.{sym, subst, ◌∙◌, inl, inr, append-nil}
use Rattle.std.specs.Cmp.{IsTotalOrder}
use Rattle.std.specs.List.{AllByRecursion}
use Rattle.std.specs.List.Sorted.{IsStrictlySortedBy, ties}
use Rattle.std.specs.Ordering.{is_lt, is_eq}
use Rattle.std.specs.declared.cmp.Ordering.{Ordering}
use Rattle.std.specs.declared.cmp.Ordering.TheVariants.{Less, Equal, Greater}
use Rattle.std.proofs.lemmas.Bool.{cases_Bool, cond-true, cond-false, cond_both}
use Rattle.std.proofs.lemmas.Cmp.{tied_back, alike_right}
use Rattle.std.proofs.lemmas.List.Elements.{filter_agree, filter-append}
use Rattle.std.proofs.lemmas.List.Sorted.{ranks_by}
use Rattle.list_lemmas.proofs.Each.{all_append, all_filter, all_map, all_mapped, all_passed, all_unmap}
use Rattle.list_lemmas.proofs.Filters.{filter-map, filter_filter_none, filter_filter_same, filter_none}
use Rattle.list_lemmas.proofs.Orderings.{Equal-from_is_eq, Less-from_is_lt, not_lt-reverse, ordering_cases}
use Rattle.list_lemmas.proofs.Orderings.{ties-reverse, turned, turned_back}
use Rattle.list_lemmas.proofs.Sorting.{Rises, one_in_order}
use Rattle.profile_math.specs.InOrder.{put_in_order, in_order}
use Rattle.profile_math.specs.Merging.{pick, merged}

-- the items with the key
abbrev pub at : {K X : Type 0} → (K → K → Ordering) → (X → K) → K → List X → List X
at cmp key k xs = filter (λ x. is_eq (cmp (key x) k)) xs

-- the items as one, or none
abbrev pub whole : {K X : Type 0} → (K → List X → X) → K → List X → List X
whole tot k [] = []
whole tot k (x ∷ xs) = tot k (x ∷ xs) ∷ []

-- one item for each key, in order
abbrev pub sums : {K X : Type 0} → (K → K → Ordering) → (X → K) → (K → List X → X) → List X → List X
sums cmp key tot xs = map (λ k. tot k (at cmp key k xs)) (in_order cmp (map key xs))

-- each item stands before those behind it
abbrev pub Climbs : {K X : Type 0} → (K → K → Ordering) → (X → K) → List X → Type 0
Climbs cmp key [] = Unit {0}
Climbs cmp key (x ∷ xs) = AllByRecursion (λ y. cmp (key x) (key y) ≡ Less) xs × Climbs cmp key xs

pub climbs-from : {K X : Type 0} (cmp : K → K → Ordering) (key : X → K) (xs : List X)
    → IsStrictlySortedBy cmp (map key xs) → Climbs cmp key xs
unfolding IsStrictlySortedBy
climbs-from cmp key [] h = tt
climbs-from cmp key (x ∷ xs) h = (
  all_unmap (λ k. cmp (key x) k ≡ Less) key xs h.0,
  climbs-from cmp key xs h.1,
)

pub climbs-sorted : {K : Type 0} (cmp : K → K → Ordering) (ks : List K) → IsStrictlySortedBy cmp ks
    → Climbs cmp (λ k. k) ks
unfolding IsStrictlySortedBy
climbs-sorted cmp [] h = tt
climbs-sorted cmp (k ∷ ks) h = (h.0, climbs-sorted cmp ks h.1)

pub sorted-from : {K X : Type 0} (cmp : K → K → Ordering) (key : X → K) (xs : List X) → Climbs cmp key xs
    → IsStrictlySortedBy cmp (map key xs)
unfolding IsStrictlySortedBy
sorted-from cmp key [] h = tt
sorted-from cmp key (x ∷ xs) h = (all_map (λ k. cmp (key x) k ≡ Less) key xs h.0, sorted-from cmp key xs h.1)

-- what stands before the first of items in order stands before all of them
pub all_above : {K X : Type 0} (cmp : K → K → Ordering) → IsTotalOrder cmp
    → (key : X → K) (k : K) (x : X) (xs : List X)
    → cmp k (key x) ≡ Less → Climbs cmp key (x ∷ xs) → AllByRecursion (λ y. cmp k (key y) ≡ Less) (x ∷ xs)
all_above cmp o key k x xs e h = (
  e,
  all_mapped (λ y. cmp (key x) (key y) ≡ Less) (λ y. cmp k (key y) ≡ Less)
      (λ y l. o.trans k (key x) (key y) e l) xs h.0,
)

-- none of the items above the key has it
pub none-at : {K X : Type 0} (cmp : K → K → Ordering) → IsTotalOrder cmp → (key : X → K) (k : K) (xs : List X)
    → AllByRecursion (λ y. cmp k (key y) ≡ Less) xs → at cmp key k xs ≡ []
none-at cmp o key k xs h = filter_none (λ x. is_eq (cmp (key x) k)) xs (all_mapped (λ y. cmp k (key y) ≡ Less)
    (λ y. is_eq (cmp (key y) k) ≡ false) (λ y l. ap is_eq (turned cmp o k (key y) l)) xs h)

-- nor a key that ties with it
pub none-tied : {K X : Type 0} (cmp : K → K → Ordering) → IsTotalOrder cmp
    → (key : X → K) (j k : K) (xs : List X)
    → cmp j k ≡ Equal → AllByRecursion (λ y. cmp j (key y) ≡ Less) xs → at cmp key k xs ≡ []
none-tied cmp o key j k xs e h = none-at cmp o key k xs (all_mapped (λ y. cmp j (key y) ≡ Less)
    (λ y. cmp k (key y) ≡ Less) (λ y l. sym (o.congr j k (key y) e) ∙ l) xs h)

pub at-yes : {K X : Type 0} (cmp : K → K → Ordering) (key : X → K) (k : K) (x : X) (xs : List X)
    → is_eq (cmp (key x) k) ≡ true → at cmp key k (x ∷ xs) ≡ x ∷ at cmp key k xs
at-yes cmp key k x xs e = cond-true (is_eq (cmp (key x) k)) (x ∷ at cmp key k xs) (at cmp key k xs) e

pub at-no : {K X : Type 0} (cmp : K → K → Ordering) (key : X → K) (k : K) (x : X) (xs : List X)
    → is_eq (cmp (key x) k) ≡ false → at cmp key k (x ∷ xs) ≡ at cmp key k xs
at-no cmp key k x xs e = cond-false (is_eq (cmp (key x) k)) (x ∷ at cmp key k xs) (at cmp key k xs) e

climbs-rises : {K X : Type 0} (cmp : K → K → Ordering) → IsTotalOrder cmp → (key : X → K) (xs : List X)
    → Climbs cmp key xs → Rises (λ x y. is_lt (cmp (key x) (key y))) xs
climbs-rises cmp o key [] h = tt
climbs-rises cmp o key (x ∷ xs) h = (
  all_mapped (λ y. cmp (key x) (key y) ≡ Less)
      (λ y. is_lt (cmp (key y) (key x)) ≡ false)
      (λ y l. not_lt-reverse (cmp (key y) (key x)) (cmp (key x) (key y)) (o.antisymm (key y) (key x)) l) xs
      h.0,
  climbs-rises cmp o key xs h.1,
)

-- two lists in order that have the same items at each key are one list
pub one_list : {K X : Type 0} (cmp : K → K → Ordering) → IsTotalOrder cmp → (key : X → K) (xs ys : List X)
    → Climbs cmp key xs → Climbs cmp key ys → ((k : K) → at cmp key k xs ≡ at cmp key k ys) → xs ≡ ys
one_list {K} {X} cmp o key xs ys h g same =
    let lt : X → X → Bool = λ x y. is_lt (cmp (key x) (key y)) in
    let agree : (x : X) (zs : List X) → filter (ties lt x) zs ≡ at cmp key (key x) zs =
    λ (x : X) (zs : List X). filter_agree (ties lt x) (λ y. is_eq (cmp (key y) (key x)))
    (λ y. ties-reverse (cmp (key x) (key y)) (cmp (key y) (key x)) (o.antisymm (key x) (key y))) zs in
    one_in_order lt (ranks_by o key) xs ys (climbs-rises cmp o key xs h) (climbs-rises cmp o key ys g)
    (λ x. agree x xs ∙ same (key x) ∙ sym (agree x ys))

pub climbs-filter : {K X : Type 0} (cmp : K → K → Ordering) (key : X → K) (p : X → Bool) (xs : List X)
    → Climbs cmp key xs → Climbs cmp key (filter p xs)
climbs-filter cmp key p [] h = tt
climbs-filter cmp key p (x ∷ xs) h = cond_both (p x) (x ∷ filter p xs) (filter p xs) (Climbs cmp key)
    (λ e. (all_filter (λ y. cmp (key x) (key y) ≡ Less) p xs h.0, climbs-filter cmp key p xs h.1))
    (λ e. climbs-filter cmp key p xs h.1)

pub climbs-append : {K X : Type 0} (cmp : K → K → Ordering) (key : X → K) (xs ys : List X) → Climbs cmp key xs
    → Climbs cmp key ys → AllByRecursion (λ x. AllByRecursion (λ y. cmp (key x) (key y) ≡ Less) ys) xs
    → Climbs cmp key (xs ++ ys)
climbs-append cmp key [] ys h g l = g
climbs-append cmp key (x ∷ xs) ys h g l = (
  all_append (λ y. cmp (key x) (key y) ≡ Less) xs ys h.0 l.0,
  climbs-append cmp key xs ys h.1 g l.1,
)

-- keys put in order are in order
put-climbs : {K : Type 0} (cmp : K → K → Ordering) → IsTotalOrder cmp → (k : K) (ks : List K)
    → Climbs cmp (λ j. j) ks → Climbs cmp (λ j. j) (put_in_order cmp k ks)
put-climbs {K} cmp o k ks h =
    let above : AllByRecursion (λ j. cmp k j ≡ Less) (filter (λ j. is_lt (cmp k j)) ks) =
    all_mapped (λ j. is_lt (cmp k j) ≡ true) (λ j. cmp k j ≡ Less) (λ j e. Less-from_is_lt (cmp k j) e)
    (filter (λ j. is_lt (cmp k j)) ks) (all_passed (λ j. is_lt (cmp k j)) ks) in
    climbs-append cmp (λ j. j) (filter (λ j. is_lt (cmp j k)) ks) (k ∷ filter (λ j. is_lt (cmp k j)) ks)
    (climbs-filter cmp (λ j. j) (λ j. is_lt (cmp j k)) ks h)
    (above, climbs-filter cmp (λ j. j) (λ j. is_lt (cmp k j)) ks h)
    (all_mapped (λ j. is_lt (cmp j k) ≡ true)
    (λ j. AllByRecursion (λ l. cmp j l ≡ Less) (k ∷ filter (λ l. is_lt (cmp k l)) ks))
    (λ j e. (
      Less-from_is_lt (cmp j k) e,
      all_mapped (λ l. cmp k l ≡ Less) (λ l. cmp j l ≡ Less)
          (λ l m. o.trans j k l (Less-from_is_lt (cmp j k) e) m) (filter (λ l. is_lt (cmp k l)) ks) above,
    ))
    (filter (λ j. is_lt (cmp j k)) ks) (all_passed (λ j. is_lt (cmp j k)) ks))

pub in_order-climbs : {K : Type 0} (cmp : K → K → Ordering) → IsTotalOrder cmp → (ks : List K)
    → Climbs cmp (λ j. j) (in_order cmp ks)
unfolding in_order
in_order-climbs cmp o [] = tt
in_order-climbs cmp o (k ∷ ks) = put-climbs cmp o k (in_order cmp ks) (in_order-climbs cmp o ks)

-- the key, where any item has it
hit : {K : Type 0} → K → List K → List K
hit k [] = []
hit k (j ∷ js) = k ∷ []

-- keys put in order have each key once
in_order-at : {K : Type 0} (cmp : K → K → Ordering) → IsTotalOrder cmp → ((j k : K) → cmp j k ≡ Equal → j ≡ k)
    → (k : K) (ks : List K) → filter (λ j. is_eq (cmp j k)) (in_order cmp ks) ≡ hit k
    (filter (λ j. is_eq (cmp j k)) ks)
unfolding in_order hit
in_order-at cmp o one k [] = refl
in_order-at {K} cmp o one k (l ∷ ls) =
    let ks : List K = in_order cmp ls in
    let eq : K → Bool = λ j. is_eq (cmp j k) in
    let below : K → Bool = λ j. is_lt (cmp j l) in
    let above : K → Bool = λ j. is_lt (cmp l j) in
    let front : filter eq (in_order cmp (l ∷ ls)) ≡ filter eq (filter below ks)
    ++ filter eq (l ∷ filter above ks) =
    filter-append eq (filter below ks) (l ∷ filter above ks) in
    elim (ordering_cases (cmp l k)) [
      | inl e ↦ front
          ∙ ap (λ (us : List K). us ++ filter eq (l ∷ filter above ks)) (filter_filter_none eq below
          (λ j h. ap is_lt (o.congr j k l (Equal-from_is_eq (cmp j k) h) ∙ turned cmp o l k e)) ks)
          ∙ cond-false (eq l) (l ∷ filter eq (filter above ks)) (filter eq (filter above ks)) (ap is_eq e)
          ∙ filter_filter_same eq above
          (λ j h. ap is_lt (alike_right o j k l (Equal-from_is_eq (cmp j k) h) ∙ e)) ks
          ∙ in_order-at cmp o one k ls
          ∙ ap (hit k) (sym (cond-false (eq l) (l ∷ filter eq ls) (filter eq ls) (ap is_eq e)))
      | inr f ↦
          elim f [
            | inl e ↦ front
                ∙ ap (λ (us : List K). us ++ filter eq (l ∷ filter above ks)) (filter_filter_none eq below
                (λ j h. ap is_lt (o.congr j k l (Equal-from_is_eq (cmp j k) h) ∙ tied_back o l k e)) ks)
                ∙ cond-true (eq l) (l ∷ filter eq (filter above ks)) (filter eq (filter above ks))
                (ap is_eq e)
                ∙ ap (λ (us : List K). l ∷ us) (filter_filter_none eq above
                (λ j h. ap is_lt (alike_right o j k l (Equal-from_is_eq (cmp j k) h) ∙ e)) ks)
                ∙ ap (λ (u : K). u ∷ []) (one l k e)
                ∙ ap (hit k) (sym (cond-true (eq l) (l ∷ filter eq ls) (filter eq ls) (ap is_eq e)))
            | inr e ↦ front
                ∙ ap (λ (us : List K). us ++ filter eq (l ∷ filter above ks)) (filter_filter_same eq below
                (λ j h. ap is_lt (o.congr j k l (Equal-from_is_eq (cmp j k) h) ∙ turned_back cmp o l k e)) ks)
                ∙ ap (λ (us : List K). filter eq ks ++ us)
                (cond-false (eq l) (l ∷ filter eq (filter above ks)) (filter eq (filter above ks))
                (ap is_eq e)
                ∙ filter_filter_none eq above
                (λ j h. ap is_lt (alike_right o j k l (Equal-from_is_eq (cmp j k) h) ∙ e)) ks)
                ∙ append-nil (filter eq ks)
                ∙ in_order-at cmp o one k ls
                ∙ ap (hit k) (sym (cond-false (eq l) (l ∷ filter eq ls) (filter eq ls) (ap is_eq e)))
          ]
    ]

-- What the items of a key are together, and how two of them are added.
pub record Totals {K X : Type 0} (cmp : K → K → Ordering) (key : X → K) (tot : K → List X → X)
    (plus : X → X → X)
    : Type 0 where
  pub order : IsTotalOrder cmp
  pub same : (j k : K) → cmp j k ≡ Equal → j ≡ k
  pub key_of : (k : K) (xs : List X) → key (tot k xs) ≡ k
  pub key_plus : (x y : X) → key (plus x y) ≡ key x
  pub one : (x : X) → tot (key x) (x ∷ []) ≡ x
  pub two : (x y : X) → tot (key x) (x ∷ y ∷ []) ≡ plus x y

one_at : {K X : Type 0} (cmp : K → K → Ordering) (key : X → K) (tot : K → List X → X) (plus : X → X → X)
    → Totals cmp key tot plus → (k : K) (x : X) → is_eq (cmp (key x) k) ≡ true → tot k (x ∷ []) ≡ x
one_at cmp key tot plus t k x e = ap (λ j. tot j (x ∷ []))
    (sym (t.same (key x) k (Equal-from_is_eq (cmp (key x) k) e)))
    ∙ t.one x

map_hit : {K X : Type 0} (cmp : K → K → Ordering) (key : X → K) (tot : K → List X → X) (k : K)
    (xs zs : List X)
    → zs ≡ at cmp key k xs → map (λ j. tot j (at cmp key j xs)) (hit k (map key zs)) ≡ whole tot k zs
unfolding hit
map_hit cmp key tot k xs [] e = refl
map_hit cmp key tot k xs (z ∷ zs) e = ap (λ ws. tot k ws ∷ []) (sym e)

-- one item for each key has at each key what its items are together
pub sums-at : {K X : Type 0} (cmp : K → K → Ordering) (key : X → K) (tot : K → List X → X) (plus : X → X → X)
    → Totals cmp key tot plus → (xs : List X) (k : K)
    → at cmp key k (sums cmp key tot xs) ≡ whole tot k (at cmp key k xs)
sums-at {K} {X} cmp key tot plus t xs k =
    let T : K → X = λ (j : K). tot j (at cmp key j xs) in
    filter-map (λ x. is_eq (cmp (key x) k)) T (in_order cmp (map key xs))
    ∙ ap (map T) (filter_agree (λ j. is_eq (cmp (key (T j)) k)) (λ j. is_eq (cmp j k))
    (λ j. ap (λ l. is_eq (cmp l k)) (t.key_of j (at cmp key j xs))) (in_order cmp (map key xs))
    ∙ in_order-at cmp t.order t.same k (map key xs)
    ∙ ap (hit k) (filter-map (λ j. is_eq (cmp j k)) key xs))
    ∙ map_hit cmp key tot k xs (at cmp key k xs) refl

all_mapped_keys : {K X : Type 0} (cmp : K → K → Ordering) (key : X → K) (f : K → X)
    → ((k : K) → key (f k) ≡ k)
    → (k : K) (ks : List K) → AllByRecursion (λ j. cmp k j ≡ Less) ks
    → AllByRecursion (λ x. cmp (key (f k)) (key x) ≡ Less) (map f ks)
all_mapped_keys cmp key f back k [] h = tt
all_mapped_keys cmp key f back k (j ∷ js) h = (
  ap (λ l. cmp l (key (f j))) (back k) ∙ ap (cmp k) (back j) ∙ h.0,
  all_mapped_keys cmp key f back k js
      h.1,
)

pub climbs-map : {K X : Type 0} (cmp : K → K → Ordering) (key : X → K) (f : K → X) → ((k : K) → key (f k) ≡ k)
    → (ks : List K) → Climbs cmp (λ j. j) ks → Climbs cmp key (map f ks)
climbs-map cmp key f back [] h = tt
climbs-map cmp key f back (k ∷ ks) h = (
  all_mapped_keys cmp key f back k ks h.0,
  climbs-map cmp key f back ks
      h.1,
)

pub sums-climbs : {K X : Type 0} (cmp : K → K → Ordering) (key : X → K) (tot : K → List X → X)
    (plus : X → X → X)
    → Totals cmp key tot plus → (xs : List X) → Climbs cmp key (sums cmp key tot xs)
sums-climbs cmp key tot plus t xs = climbs-map cmp key (λ j. tot j (at cmp key j xs))
    (λ j. t.key_of j (at cmp key j xs)) (in_order cmp (map key xs)) (in_order-climbs cmp t.order (map key xs))

-- a list in order that has at each key what the items there are together
pub sums-is : {K X : Type 0} (cmp : K → K → Ordering) (key : X → K) (tot : K → List X → X) (plus : X → X → X)
    → Totals cmp key tot plus → (zs xs : List X) → Climbs cmp key zs
    → ((k : K) → at cmp key k zs ≡ whole tot k (at cmp key k xs)) → zs ≡ sums cmp key tot xs
sums-is cmp key tot plus t zs xs h same = one_list cmp t.order key zs (sums cmp key tot xs) h
    (sums-climbs cmp key tot plus t xs) (λ k. same k ∙ sym (sums-at cmp key tot plus t xs k))

at-climbs : {K X : Type 0} (cmp : K → K → Ordering) (key : X → K) (tot : K → List X → X) (plus : X → X → X)
    → Totals cmp key tot plus → (k : K) (xs : List X) → Climbs cmp key xs
    → at cmp key k xs ≡ whole tot k (at cmp key k xs)
at-climbs cmp key tot plus t k [] h = refl
at-climbs {K} {X} cmp key tot plus t k (x ∷ xs) h =
    elim (cases_Bool (is_eq (cmp (key x) k))) [
      | inl e ↦
          (let alone : at cmp key k (x ∷ xs) ≡ x ∷ [] = at-yes cmp key k x xs e
          ∙ ap (λ (ys : List X). x ∷ ys)
          (none-tied cmp t.order key (key x) k xs (Equal-from_is_eq (cmp (key x) k) e) h.0) in
          alone ∙ ap (λ y. y ∷ []) (sym (one_at cmp key tot plus t k x e)) ∙ ap (whole tot k) (sym alone))
      | inr e ↦ at-no cmp key k x xs e ∙ at-climbs cmp key tot plus t k xs h.1
          ∙ ap (whole tot k) (sym (at-no cmp key k x xs e))
    ]

abbrev pub by_key : {K X : Type 0} → (K → K → Ordering) → (X → K) → X → X → Ordering
by_key cmp key x y = cmp (key x) (key y)

-- what stands before the items of both lists stands before the merged ones
merged-above : {K X : Type 0} (cmp : K → K → Ordering) (key : X → K) (tot : K → List X → X) (plus : X → X → X)
    → Totals cmp key tot plus → (k : K) (xs ys : List X) → AllByRecursion (λ y. cmp k (key y) ≡ Less) xs
    → AllByRecursion (λ y. cmp k (key y) ≡ Less) ys
    → AllByRecursion (λ y. cmp k (key y) ≡ Less) (merged (by_key cmp key) plus xs ys)
unfolding merged
merged-above cmp key tot plus t k [] ys h g = g
merged-above {K} {X} cmp key tot plus t k (x ∷ xs) ys h g =
    go ys g (λ zs l. merged-above cmp key tot plus t k xs zs
    h.1 l)
  where
    go : (zs : List X) → AllByRecursion (λ y. cmp k (key y) ≡ Less) zs
        → ((ws : List X) → AllByRecursion (λ y. cmp k (key y) ≡ Less) ws
        → AllByRecursion (λ y. cmp k (key y) ≡ Less) (merged (by_key cmp key) plus xs ws))
        → AllByRecursion (λ y. cmp k (key y) ≡ Less) (merged (by_key cmp key) plus (x ∷ xs) zs)
    go [] l rest = h
    go (y ∷ ws) l rest =
        elim (cmp (key x) (key y)) as (λ o. AllByRecursion (λ y. cmp k (key y) ≡ Less) (pick o
        (x ∷ merged (by_key cmp key) plus xs (y ∷ ws)) (plus x y ∷ merged (by_key cmp key) plus xs ws)
        (y ∷ merged (by_key cmp key) plus (x ∷ xs) ws))) [
          | Less ↦ (h.0, rest (y ∷ ws) l)
          | Equal ↦ (ap (cmp k) (t.key_plus x y) ∙ h.0, rest ws l.1)
          | Greater ↦ (l.0, go ws l.1 rest)
        ]

above_same : {K X : Type 0} (cmp : K → K → Ordering) (key : X → K) (j k : K) (xs : List X) → j ≡ k
    → AllByRecursion (λ y. cmp j (key y) ≡ Less) xs → AllByRecursion (λ y. cmp k (key y) ≡ Less) xs
above_same cmp key j k xs e h = subst (λ l. AllByRecursion (λ y. cmp l (key y) ≡ Less) xs) e h

pub picked : {A : Type 0} (o p : Ordering) (a b c : A) → o ≡ p → pick o a b c ≡ pick p a b c
picked o p a b c e = ap (λ q. pick q a b c) e

pub merged-climbs : {K X : Type 0} (cmp : K → K → Ordering) (key : X → K) (tot : K → List X → X)
    (plus : X → X → X)
    → Totals cmp key tot plus → (xs ys : List X) → Climbs cmp key xs → Climbs cmp key ys
    → Climbs cmp key (merged (by_key cmp key) plus xs ys)
unfolding merged
merged-climbs cmp key tot plus t [] ys h g = g
merged-climbs {K} {X} cmp key tot plus t (x ∷ xs) ys h g =
    go ys g (λ zs l. merged-climbs cmp key tot plus t xs zs
    h.1 l)
  where
    go : (zs : List X) → Climbs cmp key zs
        → ((ws : List X) → Climbs cmp key ws → Climbs cmp key (merged (by_key cmp key) plus xs ws))
        → Climbs cmp key (merged (by_key cmp key) plus (x ∷ xs) zs)
    go [] l rest = h
    go (y ∷ ws) l rest =
        elim (ordering_cases (cmp (key x) (key y))) [
          | inl e ↦ subst (Climbs cmp key) (sym (picked (cmp (key x) (key y)) Less
              (x ∷ merged (by_key cmp key) plus xs (y ∷ ws)) (plus x y ∷ merged (by_key cmp key) plus xs ws)
              (y ∷ merged (by_key cmp key) plus (x ∷ xs) ws) e)) (
                merged-above cmp key tot plus t (key x) xs (y ∷ ws) h.0
                    (all_above cmp t.order key (key x) y ws e l),
                rest (y ∷ ws) l,
              )
          | inr f ↦
              elim f [
                | inl e ↦ subst (Climbs cmp key) (sym (picked (cmp (key x) (key y)) Equal
                    (x ∷ merged (by_key cmp key) plus xs (y ∷ ws))
                    (plus x y ∷ merged (by_key cmp key) plus xs ws)
                    (y ∷ merged (by_key cmp key) plus (x ∷ xs) ws) e)) (
                      merged-above cmp key tot plus t (key (plus x y)) xs ws
                          (above_same cmp key (key x) (key (plus x y)) xs (sym (t.key_plus x y)) h.0)
                          (above_same cmp key (key y) (key (plus x y)) ws
                          (sym (t.same (key x) (key y) e) ∙ sym (t.key_plus x y)) l.0),
                      rest ws l.1,
                    )
                | inr e ↦ subst (Climbs cmp key) (sym (picked (cmp (key x) (key y)) Greater
                    (x ∷ merged (by_key cmp key) plus xs (y ∷ ws))
                    (plus x y ∷ merged (by_key cmp key) plus xs ws)
                    (y ∷ merged (by_key cmp key) plus (x ∷ xs) ws) e)) (
                      merged-above cmp key tot plus t (key y) (x ∷ xs) ws
                          (all_above cmp t.order key (key y) x xs (turned_back cmp t.order (key x) (key y) e)
                          h)
                          l.0,
                      go ws l.1 rest,
                    )
              ]
        ]

-- The next item of a merged list: at its key the rest has none, and elsewhere it isn't.
next-at : {K X : Type 0} (cmp : K → K → Ordering) (key : X → K) (tot : K → List X → X) (plus : X → X → X)
    → Totals cmp key tot plus → (k : K) (z : X) (zs us vs : List X)
    → AllByRecursion (λ y. cmp (key z) (key y) ≡ Less) zs
    → (is_eq (cmp (key z) k) ≡ true → whole tot k us ≡ z ∷ [])
    → (is_eq (cmp (key z) k) ≡ false → us ≡ vs) → at cmp key k zs ≡ whole tot k vs
    → at cmp key k (z ∷ zs) ≡ whole tot k us
next-at {K} {X} cmp key tot plus t k z zs us vs h hit_z miss_z rest =
    elim (cases_Bool (is_eq (cmp (key z) k))) [
      | inl e ↦ at-yes cmp key k z zs e ∙ ap (λ (ws : List X). z ∷ ws) (none-tied cmp t.order key (key z) k zs
          (Equal-from_is_eq (cmp (key z) k) e) h) ∙ sym (hit_z e)
      | inr e ↦ at-no cmp key k z zs e ∙ rest ∙ ap (whole tot k) (sym (miss_z e))
    ]

-- two lists in order, merged, have at each key what both have there
pub merged-at : {K X : Type 0} (cmp : K → K → Ordering) (key : X → K) (tot : K → List X → X)
    (plus : X → X → X)
    → Totals cmp key tot plus → (k : K) (xs ys : List X) → Climbs cmp key xs → Climbs cmp key ys
    → at cmp key k (merged (by_key cmp key) plus xs ys) ≡ whole tot k (at cmp key k xs ++ at cmp key k ys)
unfolding merged
merged-at cmp key tot plus t k [] ys h g = at-climbs cmp key tot plus t k ys g
merged-at {K} {X} cmp key tot plus t k (x ∷ xs) ys h g =
    go ys g (λ zs l. merged-at cmp key tot plus t k xs zs h.1 l)
    (λ zs l. merged-climbs cmp key tot plus t (x ∷ xs) zs h l)
    (λ zs l. merged-climbs cmp key tot plus t xs zs h.1 l)
  where
    M : List X → List X → List X
    M us vs = merged (by_key cmp key) plus us vs

    go : (zs : List X) → Climbs cmp key zs
        → ((ws : List X) → Climbs cmp key ws
        → at cmp key k (merged (by_key cmp key) plus xs ws) ≡ whole tot k
        (at cmp key k xs ++ at cmp key k ws))
        → ((ws : List X) → Climbs cmp key ws → Climbs cmp key (merged (by_key cmp key) plus (x ∷ xs) ws))
        → ((ws : List X) → Climbs cmp key ws → Climbs cmp key (merged (by_key cmp key) plus xs ws))
        → at cmp key k (merged (by_key cmp key) plus (x ∷ xs) zs) ≡ whole tot k
        (at cmp key k (x ∷ xs) ++ at cmp key k zs)
    go [] l rest both tail = at-climbs cmp key tot plus t k (x ∷ xs) h
        ∙ ap (whole tot k) (sym (append-nil (at cmp key k (x ∷ xs))))
    go (y ∷ ws) l rest both tail =
        elim (ordering_cases (cmp (key x) (key y))) [
          | inl e ↦
              (let behind = all_above cmp t.order key (key x) y ws e l in
              ap (at cmp key k) (picked (cmp (key x) (key y)) Less
              (x ∷ merged (by_key cmp key) plus xs (y ∷ ws)) (plus x y ∷ merged (by_key cmp key) plus xs ws)
              (y ∷ merged (by_key cmp key) plus (x ∷ xs) ws) e)
              ∙ next-at cmp key tot plus t k x (merged (by_key cmp key) plus xs (y ∷ ws))
              (at cmp key k (x ∷ xs) ++ at cmp key k (y ∷ ws)) (at cmp key k xs ++ at cmp key k (y ∷ ws))
              (merged-above cmp key tot plus t (key x) xs (y ∷ ws) h.0 behind)
              (λ i. ap (whole tot k) (ap (λ (us : List X). us ++ at cmp key k (y ∷ ws))
              (at-yes cmp key k x xs i
              ∙ ap (λ (us : List X). x ∷ us)
              (none-tied cmp t.order key (key x) k xs (Equal-from_is_eq (cmp (key x) k) i) h.0))
              ∙ ap (λ (us : List X). x ∷ us)
              (none-tied cmp t.order key (key x) k (y ∷ ws) (Equal-from_is_eq (cmp (key x) k) i) behind))
              ∙ ap (λ z. z ∷ []) (one_at cmp key tot plus t k x i))
              (λ i. ap (λ (us : List X). us ++ at cmp key k (y ∷ ws)) (at-no cmp key k x xs i))
              (rest (y ∷ ws) l))
          | inr f ↦
              elim f [
                | inl e ↦
                    (let same : key (plus x y) ≡ key y = t.key_plus x y ∙ t.same (key x) (key y) e in
                    let turn : (b : Bool) → is_eq (cmp (key (plus x y)) k) ≡ b → is_eq (cmp (key x) k) ≡ b =
                    λ (b : Bool) (i : is_eq (cmp (key (plus x y)) k) ≡ b). ap (λ j. is_eq (cmp j k))
                    (sym (t.key_plus x y)) ∙ i in
                    let turn_y : (b : Bool) → is_eq (cmp (key (plus x y)) k) ≡ b → is_eq (cmp (key y) k) ≡ b =
                    λ (b : Bool) (i : is_eq (cmp (key (plus x y)) k) ≡ b). ap (λ j. is_eq (cmp j k))
                    (sym same) ∙ i in
                    ap (at cmp key k) (picked (cmp (key x) (key y)) Equal
                    (x ∷ merged (by_key cmp key) plus xs (y ∷ ws))
                    (plus x y ∷ merged (by_key cmp key) plus xs ws)
                    (y ∷ merged (by_key cmp key) plus (x ∷ xs) ws) e)
                    ∙ next-at cmp key tot plus t k (plus x y) (merged (by_key cmp key) plus xs ws)
                    (at cmp key k (x ∷ xs) ++ at cmp key k (y ∷ ws)) (at cmp key k xs ++ at cmp key k ws)
                    (merged-above cmp key tot plus t (key (plus x y)) xs ws
                    (above_same cmp key (key x) (key (plus x y)) xs (sym (t.key_plus x y)) h.0)
                    (above_same cmp key (key y) (key (plus x y)) ws (sym same) l.0))
                    (λ i. ap (whole tot k) (ap (λ (us : List X). us ++ at cmp key k (y ∷ ws))
                    (at-yes cmp key k x xs (turn true i)
                    ∙ ap (λ (us : List X). x ∷ us) (none-tied cmp t.order key (key x) k xs
                    (Equal-from_is_eq (cmp (key x) k) (turn true i)) h.0))
                    ∙ ap (λ (us : List X). x ∷ us) (at-yes cmp key k y ws (turn_y true i)
                    ∙ ap (λ (us : List X). y ∷ us) (none-tied cmp t.order key (key y) k ws
                    (Equal-from_is_eq (cmp (key y) k) (turn_y true i)) l.0)))
                    ∙ ap (λ z. z ∷ []) (ap (λ j. tot j (x ∷ y ∷ []))
                    (sym (t.same (key x) k (Equal-from_is_eq (cmp (key x) k) (turn true i)))) ∙ t.two x y))
                    (λ i. ap (λ (us : List X). us ++ at cmp key k (y ∷ ws))
                    (at-no cmp key k x xs (turn false i))
                    ∙ ap (λ (us : List X). at cmp key k xs ++ us) (at-no cmp key k y ws (turn_y false i)))
                    (rest ws l.1))
                | inr e ↦
                    (let back = turned_back cmp t.order (key x) (key y) e in
                    let behind = all_above cmp t.order key (key y) x xs back h in
                    ap (at cmp key k) (picked (cmp (key x) (key y)) Greater
                    (x ∷ merged (by_key cmp key) plus xs (y ∷ ws))
                    (plus x y ∷ merged (by_key cmp key) plus xs ws)
                    (y ∷ merged (by_key cmp key) plus (x ∷ xs) ws) e)
                    ∙ next-at cmp key tot plus t k y (merged (by_key cmp key) plus (x ∷ xs) ws)
                    (at cmp key k (x ∷ xs) ++ at cmp key k (y ∷ ws)) (at cmp key k (x ∷ xs)
                    ++ at cmp key k ws)
                    (merged-above cmp key tot plus t (key y) (x ∷ xs) ws behind l.0)
                    (λ i. ap (whole tot k) (ap (λ (us : List X). us ++ at cmp key k (y ∷ ws))
                    (none-tied cmp t.order key (key y) k (x ∷ xs) (Equal-from_is_eq (cmp (key y) k) i) behind)
                    ∙ at-yes cmp key k y ws i ∙ ap (λ (us : List X). y ∷ us)
                    (none-tied cmp t.order key (key y) k ws (Equal-from_is_eq (cmp (key y) k) i) l.0))
                    ∙ ap (λ z. z ∷ []) (one_at cmp key tot plus t k y i))
                    (λ i. ap (λ (us : List X). at cmp key k (x ∷ xs) ++ us) (at-no cmp key k y ws i))
                    (go ws l.1 rest both tail))
              ]
        ]

-- two lists in order, merged, are the sums over both
pub merged-is : {K X : Type 0} (cmp : K → K → Ordering) (key : X → K) (tot : K → List X → X)
    (plus : X → X → X)
    → Totals cmp key tot plus → (xs ys : List X) → Climbs cmp key xs → Climbs cmp key ys
    → merged (by_key cmp key) plus xs ys ≡ sums cmp key tot (xs ++ ys)
merged-is cmp key tot plus t xs ys h g = sums-is cmp key tot plus t (merged (by_key cmp key) plus xs ys)
    (xs ++ ys)
    (merged-climbs cmp key tot plus t xs ys h g)
    (λ k. merged-at cmp key tot plus t k xs ys h g
    ∙ ap (whole tot k) (sym (filter-append (λ x. is_eq (cmp (key x) k)) xs ys)))
