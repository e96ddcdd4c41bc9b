-- What holds of each item of a list.
use Rattle.std.proofs.Common.{Bool, List, None, Option, Some, [], arith, drop, false, filter, filter_map}
use Rattle.std.proofs.Common.{get_or, inl, inr, length, map, refl, slice_get, subst, suc, sym, take, true}
use Rattle.std.proofs.Common.{zero, ℕ, ◌&&◌, ◌++◌, ◌+◌, ◌<◌, ◌∙◌, ◌∷◌, ◌≡◌, ◌≤◌}
use Rattle.std.proofs.lemmas.Bool.{and_parts, cases_eq, cond_both, or_parts}
use Rattle.std.proofs.lemmas.List.{append_assoc}
use Rattle.std.proofs.lemmas.Option.{none-some, same_Some}
use Rattle.std.specs.List.{AllByRecursion, Contains, cons_option, enumerate_from, flat_map, list_all}
use Rattle.std.specs.List.{list_any, zip}
use Rattle.std.specs.Option.{option_map_or}
use Rattle.list_lemmas.proofs.Members.{has_cons, has_here, has_there}

pub all_always : {X : Type 0} (P : X → Type 0) → ((x : X) → P x) → (xs : List X) → AllByRecursion P xs
all_always P holds [] = tt
all_always P holds (x ∷ xs) = (holds x, all_always P holds xs)

pub all_both : {X : Type 0} (P Q : X → Type 0) (xs : List X) → AllByRecursion P xs → AllByRecursion Q xs
    → AllByRecursion (λ x. P x × Q x) xs
all_both P Q [] all others = tt
all_both P Q (x ∷ xs) all others = ((all.0, others.0), all_both P Q xs all.1 others.1)

pub all_mapped : {X : Type 0} (P Q : X → Type 0) → ((x : X) → P x → Q x) → (xs : List X) → AllByRecursion P xs
    → AllByRecursion Q xs
all_mapped P Q f [] h = tt
all_mapped P Q f (x ∷ xs) h = (f x h.0, all_mapped P Q f xs h.1)

pub all_append : {X : Type 0} (P : X → Type 0) (xs ys : List X) → AllByRecursion P xs → AllByRecursion P ys
    → AllByRecursion P (xs ++ ys)
all_append P [] ys h k = k
all_append P (x ∷ xs) ys h k = (h.0, all_append P xs ys h.1 k)

pub all_push : {X : Type 0} (P : X → Type 0) (xs : List X) (x : X) → AllByRecursion P xs → P x
    → AllByRecursion P (xs ++ x ∷ [])
all_push P [] x h p = (p, tt)
all_push P (y ∷ ys) x h p = (h.0, all_push P ys x h.1 p)

pub all_first : {X : Type 0} (P : X → Type 0) (xs ys : List X) → AllByRecursion P (xs ++ ys)
    → AllByRecursion P xs
all_first P [] ys all = tt
all_first P (x ∷ xs) ys all = (all.0, all_first P xs ys all.1)

pub all_second : {X : Type 0} (P : X → Type 0) (xs ys : List X) → AllByRecursion P (xs ++ ys)
    → AllByRecursion P ys
all_second P [] ys all = all
all_second P (x ∷ xs) ys all = all_second P xs ys all.1

pub all_take : {X : Type 0} (P : X → Type 0) (n : ℕ) (xs : List X) → AllByRecursion P xs
    → AllByRecursion P (take n xs)
all_take P zero xs h = tt
all_take P (suc n) [] h = tt
all_take P (suc n) (x ∷ xs) h = (h.0, all_take P n xs h.1)

pub all_dropped : {X : Type 0} (P : X → Type 0) (xs : List X) → AllByRecursion P xs
    → AllByRecursion P (drop 1 xs)
all_dropped P [] all = tt
all_dropped P (x ∷ xs) all = all.1

pub all_map : {X Y : Type 0} (P : Y → Type 0) (f : X → Y) (xs : List X) → AllByRecursion (λ x. P (f x)) xs
    → AllByRecursion P (map f xs)
all_map P f [] all = tt
all_map P f (x ∷ xs) all = (all.0, all_map P f xs all.1)

pub all_unmap : {X Y : Type 0} (P : Y → Type 0) (f : X → Y) (xs : List X) → AllByRecursion P (map f xs)
    → AllByRecursion (λ x. P (f x)) xs
all_unmap P f [] all = tt
all_unmap P f (x ∷ xs) all = (all.0, all_unmap P f xs all.1)

pub all_made : {X Y : Type 0} (P : X → Type 0) (Q : Y → Type 0) (f : X → Y) → ((x : X) → P x → Q (f x))
    → (xs : List X) → AllByRecursion P xs → AllByRecursion Q (map f xs)
all_made P Q f makes xs all = all_map Q f xs (all_mapped P (λ x. Q (f x)) makes xs all)

pub any_made : {X Y : Type 0} (Q : Y → Type 0) (f : X → Y) → ((x : X) → Q (f x)) → (xs : List X)
    → AllByRecursion Q (map f xs)
any_made Q f makes xs = all_map Q f xs (all_always (λ x. Q (f x)) makes xs)

pub all_flat_map : {X Y : Type 0} (P : Y → Type 0) (f : X → List Y) (xs : List X)
    → AllByRecursion (λ x. AllByRecursion P (f x)) xs → AllByRecursion P (flat_map f xs)
all_flat_map P f [] all = tt
all_flat_map P f (x ∷ xs) all = all_append P (f x) (flat_map f xs) all.0 (all_flat_map P f xs all.1)

-- of the items of parts, by each part
pub all_parts : {X Y : Type 0} (P : Y → Type 0) (f : X → List Y) (xs : List X)
    → AllByRecursion P (flat_map f xs) → AllByRecursion (λ x. AllByRecursion P (f x)) xs
all_parts P f [] all = tt
all_parts P f (x ∷ xs) all = (
  all_first P (f x) (flat_map f xs) all,
  all_parts P f xs (all_second P (f x) (flat_map f xs) all),
)

pub any_parts : {X Y : Type 0} (Q : Y → Type 0) (f : X → List Y) → ((x : X) → AllByRecursion Q (f x))
    → (xs : List X) → AllByRecursion Q (flat_map f xs)
any_parts Q f makes xs = all_flat_map Q f xs (all_always (λ x. AllByRecursion Q (f x)) makes xs)

pub all_left : {X Y : Type 0} (P : X → Type 0) (xs : List X) (ys : List Y) → AllByRecursion P xs
    → AllByRecursion (λ p. P p.0) (zip xs ys)
all_left P [] ys all = tt
all_left P (x ∷ xs) [] all = tt
all_left P (x ∷ xs) (y ∷ ys) all = (all.0, all_left P xs ys all.1)

pub all_right : {X Y : Type 0} (P : Y → Type 0) (xs : List X) (ys : List Y) → AllByRecursion P ys
    → AllByRecursion (λ p. P p.1) (zip xs ys)
all_right P [] ys all = tt
all_right P (x ∷ xs) [] all = tt
all_right P (x ∷ xs) (y ∷ ys) all = (all.0, all_right P xs ys all.1)

pub all_zipped : {X Y Z : Type 0} (P : Y × Z → Type 0) (f : X → Y) (g : X → Z) (xs : List X)
    → AllByRecursion (λ x. P (f x, g x)) xs → AllByRecursion P (zip (map f xs) (map g xs))
all_zipped P f g [] all = tt
all_zipped P f g (x ∷ xs) all = (all.0, all_zipped P f g xs all.1)

pub all_enumerated : {X : Type 0} (P : X → Type 0) (n : ℕ) (xs : List X) → AllByRecursion P xs
    → AllByRecursion (λ (p : ℕ × X). P p.1) (enumerate_from n xs)
all_enumerated P n [] all = tt
all_enumerated P n (x ∷ xs) all = (all.0, all_enumerated P (n + 1) xs all.1)

pub all_unenumerated : {X : Type 0} (P : X → Type 0) (n : ℕ) (xs : List X)
    → AllByRecursion (λ (p : ℕ × X). P p.1) (enumerate_from n xs) → AllByRecursion P xs
all_unenumerated P n [] all = tt
all_unenumerated P n (x ∷ xs) all = (all.0, all_unenumerated P (n + 1) xs all.1)

pub all_filter : {X : Type 0} (P : X → Type 0) (p : X → Bool) (xs : List X) → AllByRecursion P xs
    → AllByRecursion P (filter p xs)
all_filter P p [] h = tt
all_filter P p (x ∷ xs) h = cond_both (p x) (x ∷ filter p xs) (filter p xs) (AllByRecursion P)
    (λ e. (h.0, all_filter P p xs h.1)) (λ e. all_filter P p xs h.1)

pub all_passed : {X : Type 0} (p : X → Bool) (xs : List X) → AllByRecursion (λ x. p x ≡ true) (filter p xs)
all_passed p [] = tt
all_passed p (x ∷ xs) = cond_both (p x) (x ∷ filter p xs) (filter p xs) (AllByRecursion (λ y. p y ≡ true))
    (λ e. (e, all_passed p xs)) (λ e. all_passed p xs)

pub all_told : {X Y : Type 0} (h : X → Option Y) (P : Y → Type 0) → ((x : X) (y : Y) → h x ≡ Some y → P y)
    → (xs : List X) → AllByRecursion P (filter_map h xs)
all_told h P holds [] = tt
all_told h P holds (x ∷ xs) = by (h x) refl (all_told h P holds xs)
  where
    by : (o : Option _) → h x ≡ o → AllByRecursion P (filter_map h xs)
        → AllByRecursion P (cons_option o (filter_map h xs))
    by None e later = later
    by (Some y) e later = (holds x y e, later)

pub all_by_index : {X : Type 0} (P : X → Type 0) (xs : List X)
    → ((k : ℕ) → k < length xs → (d : X) → P (get_or xs k d)) → AllByRecursion P xs
all_by_index P [] h = tt
all_by_index P (x ∷ xs) h = (h 0 (omega arith) x, all_by_index P xs (λ k l d. h (suc k) (omega arith) d))

pub all_by_place : {X : Type 0} (P : X → Type 0) (xs : List X) → ((i : ℕ) (x : X) → slice_get xs i ≡ Some x
    → P x)
    → AllByRecursion P xs
all_by_place P [] h = tt
all_by_place P (x ∷ xs) h = (h 0 x refl, all_by_place P xs (λ i y e. h (suc i) y e))

-- what holds of each holds of the one that is found
pub all_at : {X : Type 0} (P : X → Type 0) (xs : List X) (k : ℕ) (x : X) → AllByRecursion P xs
    → slice_get xs k ≡ Some x → P x
all_at P [] k x all is = absurd (none-some x is)
all_at P (y ∷ ys) zero x all is = subst P (same_Some y x is) all.0
all_at P (y ∷ ys) (suc k) x all is = all_at P ys k x all.1 is

-- a number of an item that is found is at most what each is at most
pub all_within : {X : Type 0} (f : X → ℕ) (limit : ℕ) (xs : List X) (k : ℕ)
    → AllByRecursion (λ x. f x ≤ limit) xs → option_map_or f (slice_get xs k) 0 ≤ limit
all_within f limit [] k all = omega arith
all_within f limit (x ∷ xs) zero all = all.0
all_within f limit (x ∷ xs) (suc k) all = all_within f limit xs k all.1

pub all_has : {X : Type 0} (P : X → Type 0) (xs : List X) (x : X) → AllByRecursion P xs → Contains xs x → P x
all_has P [] x all c = absurd (omega (arith, c.1))
all_has P (y ∷ ys) x all c = elim (has_cons y x ys c) [
  | inl e ↦ subst P e all.0
  | inr later ↦ all_has P ys x all.1 later
]

pub all_from : {X : Type 0} (P : X → Type 0) (xs : List X) → ((x : X) → Contains xs x → P x)
    → AllByRecursion P xs
all_from P [] h = tt
all_from P (x ∷ xs) h = (h x (has_here x xs), all_from P xs (λ y c. h y (has_there x y xs c)))

pub all_by_test : {X : Type 0} (p : X → Bool) (P : X → Type 0) → ((x : X) → p x ≡ true → P x) → (xs : List X)
    → list_all p xs ≡ true → AllByRecursion P xs
all_by_test p P tells [] e = tt
all_by_test p P tells (x ∷ xs) e =
    let both = and_parts (p x) (list_all p xs) e in (tells x both.0, all_by_test p P tells xs both.1)

pub none_by_any : {X : Type 0} (p : X → Bool) (xs : List X) → list_any p xs ≡ false
    → AllByRecursion (λ x. p x ≡ false) xs
none_by_any p [] e = tt
none_by_any p (x ∷ xs) e = let both = or_parts (p x) (list_any p xs) e in (both.0, none_by_any p xs both.1)

-- what holds of each item, by those before it and those behind it
pub each_between : {X : Type 0} (P : X → Type 0) (front xs : List X)
    → ((before : List X) (x : X) (back : List X) → before ++ x ∷ back ≡ front ++ xs → P x)
    → AllByRecursion P xs
each_between P front [] holds = tt
each_between P front (x ∷ xs) holds = (
  holds front x xs refl,
  each_between P (front ++ x ∷ []) xs (λ before y back is. holds before y back
      (is ∙ append_assoc front (x ∷ []) xs)),
)

pub item_has : {A : Type 0} (P : A → Type 0) (done left : List A) (a : A) (all : List A)
    → done ++ a ∷ left ≡ all → AllByRecursion P all → P a
item_has {A = A} P done left a all is each = by done (subst (AllByRecursion P) (sym is) each)
  where
    by : (done : List A) → AllByRecursion P (done ++ a ∷ left) → P a
    by [] each = each.0
    by (d ∷ done) each = by done each.1

-- the test passes at each number below n
abbrev pub passes_below : (ℕ → Bool) → ℕ → Bool
passes_below p zero = true
passes_below p (suc n) = p n && passes_below p n

pub passes_below-at : (p : ℕ → Bool) (n i : ℕ) → passes_below p n ≡ true → i < n → p i ≡ true
passes_below-at p zero i e h = absurd (omega arith)
passes_below-at p (suc n) i e h =
    elim (cases_eq i n) [
      | inl same ↦ subst (λ (j : ℕ). p j ≡ true) (sym same) (and_parts (p n) (passes_below p n) e).0
      | inr other ↦ passes_below-at p n i (and_parts (p n) (passes_below p n) e).1 (omega (arith, other))
    ]
