-- Lists made item by item of others.
use Rattle.std.proofs.Common.{All, List, None, Option, Some, [], ap, append-nil, append_assoc, ap₂, arith}
use Rattle.std.proofs.Common.{drop, flat_map, get_or, length, map, refl, set, slice_get, subst, suc, sym}
use Rattle.std.proofs.Common.{zero, ℕ, ◌++◌, ◌+◌, ◌<◌, ◌∙◌, ◌∷◌, ◌≡◌, ◌≤◌}
use Rattle.std.proofs.lemmas.List.{map-append}
use Rattle.std.proofs.lemmas.List.Concat.{flat_map-append}
use Rattle.std.proofs.lemmas.List.Elements.{All-from_get_or, All-head, All-tail, recursion_from_All}
use Rattle.std.proofs.lemmas.List.FromFn.{get_or-enumerate_from, get_or-map-range_with_len}
use Rattle.std.proofs.lemmas.List.FromFn.{length-enumerate_from, length-map-range_with_len}
use Rattle.std.proofs.lemmas.Option.{none-some, same_Some, slice_get-map}
use Rattle.std.specs.List.{AllByRecursion, enumerate_from, range_with_len, zip}
use Rattle.std.specs.Option.{option_map}

pub map_agree : {X Y : Type 0} (f g : X → Y) → ((x : X) → f x ≡ g x) → (xs : List X) → map f xs ≡ map g xs
map_agree f g h [] = refl
map_agree {X} {Y} f g h (x ∷ xs) = ap (λ y. y ∷ map f xs) (h x) ∙ ap (λ (ys : List Y). g x ∷ ys)
    (map_agree f g h xs)

pub map_agree_all : {X Y : Type 0} (f g : X → Y) (xs : List X) → AllByRecursion (λ x. f x ≡ g x) xs
    → map f xs ≡ map g xs
map_agree_all f g [] all = refl
map_agree_all {X} {Y} f g (x ∷ xs) all = ap (λ (y : Y). y ∷ map f xs) all.0 ∙ ap (λ (ys : List Y). g x ∷ ys)
    (map_agree_all f g xs all.1)

pub map_agree_where : {X Y : Type 0} (f g : X → Y) (P : X → Type 0) (xs : List X) → ((x : X) → P x
    → f x ≡ g x)
    → All P xs → map f xs ≡ map g xs
map_agree_where f g P [] agree all = refl
map_agree_where f g P (x ∷ xs) agree all = ap₂ ◌∷◌ (agree x (All-head P x xs all))
    (map_agree_where f g P xs agree (All-tail P x xs all))

pub map_agree_at : {X Y : Type 0} (f g : X → Y) (xs : List X)
    → ((k : ℕ) (x : X) → slice_get xs k ≡ Some x → f x ≡ g x) → map f xs ≡ map g xs
map_agree_at f g [] same = refl
map_agree_at f g (x ∷ xs) same = ap₂ ◌∷◌ (same 0 x refl) (map_agree_at f g xs (λ k y at. same (suc k) y at))

-- what f makes of each item, g makes of its key
pub map_told : {X K Y : Type 0} (key : X → K) (f : X → Y) (g : K → Y) (xs : List X)
    → All (λ x. f x ≡ g (key x)) xs → map f xs ≡ map g (map key xs)
map_told key f g [] all = refl
map_told key f g (x ∷ xs) all = ap₂ ◌∷◌ (All-head (λ y. f y ≡ g (key y)) x xs all)
    (map_told key f g xs (All-tail (λ y. f y ≡ g (key y)) x xs all))

pub map_middle : {X Y : Type 0} (f : X → Y) (front : List X) (id : X) (back : List X)
    → map f (front ++ id ∷ [] ++ back) ≡ map f front ++ f id ∷ map f back
map_middle f front id back = map-append f (front ++ id ∷ []) back ∙ ap (λ xs. xs ++ map f back)
    (map-append f front (id ∷ [])) ∙ append_assoc (map f front) (f id ∷ []) (map f back)

-- a list of images whose last is known
pub map_last : {X Y : Type 0} (f : X → Y) (xs : List X) (ys : List Y) (y : Y) → map f xs ≡ ys ++ y ∷ []
    → (front : List X) × (x : X) × (xs ≡ front ++ x ∷ []) × (ys ≡ map f front) × (y ≡ f x)
map_last f [] [] y e = absurd (omega (arith, ap length e))
map_last f [] (z ∷ zs) y e = absurd (omega (arith, ap length e))
map_last {X} {Y} f (x ∷ []) [] y e = ([], x, refl, refl, sym (ap (λ (l : List Y). get_or l 0 y) e))
map_last {X} {Y} f (x ∷ xs) (z ∷ zs) y e =
    let more = map_last f xs zs y (ap (λ (l : List Y). drop 1 l) e) in (
      x ∷ more.0,
      more.1,
      ap (λ (l : List X). x ∷ l) more.2,
      ap (λ (w : Y). w ∷ zs) (sym (ap (λ (l : List Y). get_or l 0 y) e)) ∙ ap (λ (l : List Y). f x ∷ l)
          more.3,
      more.4,
    )
map_last f (x ∷ w ∷ xs) [] y e = absurd (omega (arith, ap length e))

-- the next of those that are left
pub map_next : {X Y : Type 0} (f : X → Y) (xs : List X) (i : ℕ) (d : Y) → i < length (map f xs)
    → (x : X) × (drop i xs ≡ x ∷ drop (i + 1) xs) × (get_or (map f xs) i d ≡ f x)
map_next f [] i d h = absurd (omega (arith, h))
map_next f (x ∷ xs) zero d h = (x, refl, refl)
map_next f (x ∷ xs) (suc i) d h =
    let more = map_next f xs i d (omega (arith, h)) in (
      more.0,
      more.1 ∙ ap (λ (n : ℕ). more.0 ∷ drop n (x ∷ xs)) (let n : suc (i + 1) ≡ suc i + 1 = omega arith in n),
      more.2,
    )

-- the item behind a mapped one
pub slice_get-mapped : {X Y : Type 0} (f : X → Y) (xs : List X) (k : ℕ) (y : Y)
    → slice_get (map f xs) k ≡ Some y
    → (x : X) × (slice_get xs k ≡ Some x) × (f x ≡ y)
slice_get-mapped f xs k y at = by (slice_get xs k) refl (sym (slice_get-map f xs k) ∙ at)
  where
    by : (o : Option _) → slice_get xs k ≡ o → option_map f o ≡ Some y
        → (x : _) × (slice_get xs k ≡ Some x) × (f x ≡ y)
    by None is found = absurd (none-some y found)
    by (Some x) is found = (x, is, same_Some (f x) y found)

pub get_or-map_plus : (a i d : ℕ) (xs : List ℕ) → i < length xs
    → get_or (map (λ n. n + a) xs) i d ≡ get_or xs i d + a
get_or-map_plus a i d [] h = absurd (omega arith)
get_or-map_plus a zero d (x ∷ xs) h = refl
get_or-map_plus a (suc i) d (x ∷ xs) h = get_or-map_plus a i d xs (omega arith)

pub flat_map-push : {X Y : Type 0} (f : X → List Y) (xs : List X) (x : X) → flat_map f (xs ++ x ∷ [])
    ≡ flat_map f xs ++ f x
flat_map-push f xs x = flat_map-append f xs (x ∷ []) ∙ ap (λ ys. flat_map f xs ++ ys) (append-nil (f x))

pub flat_map_agree : {X Y : Type 0} (f g : X → List Y) (xs : List X) → ((x : X) → f x ≡ g x)
    → flat_map f xs ≡ flat_map g xs
flat_map_agree f g [] agree = refl
flat_map_agree {X} {Y} f g (x ∷ xs) agree = ap (λ (ys : List Y). ys ++ flat_map f xs) (agree x)
    ∙ ap (λ (ys : List Y). g x ++ ys) (flat_map_agree f g xs agree)

pub flat_map-seconds : {X Y Z : Type 0} (f : Y → List Z) (pairs : List (X × Y))
    → flat_map (λ p. f p.1) pairs ≡ flat_map f (map (λ p. p.1) pairs)
flat_map-seconds f [] = refl
flat_map-seconds f (p ∷ pairs) = ap (λ zs. f p.1 ++ zs) (flat_map-seconds f pairs)

pub map-seconds : {X Y : Type 0} (f : X → Y) (pairs : List (X × Y)) → AllByRecursion (λ p. f p.0 ≡ p.1) pairs
    → map f (map (λ p. p.0) pairs) ≡ map (λ p. p.1) pairs
map-seconds f [] all = refl
map-seconds f (p ∷ pairs) all = ap₂ (λ y ys. y ∷ ys) all.0 (map-seconds f pairs all.1)

pub length-zipped : {X Y Z : Type 0} (f : X → Y) (g : X → Z) (xs : List X)
    → length (zip (map f xs) (map g xs)) ≡ length xs
length-zipped f g [] = refl
length-zipped f g (x ∷ xs) = ap suc (length-zipped f g xs)

-- what each is, by its number
numbered-get-by : {X Y : Type 0} (f : ℕ × X → Y) (from k at : ℕ) (xs : List X) → from + k ≡ at
    → slice_get (map f (zip (range_with_len from (length xs)) xs)) k ≡ option_map (λ x. f (at, x))
    (slice_get xs k)
numbered-get-by f from k at [] is = refl
numbered-get-by f from zero at (x ∷ xs) is = ap (λ n. Some (f (n, x))) (omega (arith, is))
numbered-get-by f from (suc k) at (x ∷ xs) is = numbered-get-by f (from + 1) k at xs (omega (arith, is))

pub numbered-get : {X Y : Type 0} (f : ℕ × X → Y) (xs : List X) (k : ℕ)
    → slice_get (map f (zip (range_with_len 0 (length xs)) xs)) k
    ≡ option_map (λ x. f (k, x)) (slice_get xs k)
numbered-get f xs k = numbered-get-by f 0 k k xs (omega arith)

numbered-length-by : {X Y : Type 0} (f : ℕ × X → Y) (from : ℕ) (xs : List X)
    → length (map f (zip (range_with_len from (length xs)) xs)) ≡ length xs
numbered-length-by f from [] = refl
numbered-length-by f from (x ∷ xs) = ap suc (numbered-length-by f (from + 1) xs)

pub numbered-length : {X Y : Type 0} (f : ℕ × X → Y) (xs : List X)
    → length (map f (zip (range_with_len 0 (length xs)) xs)) ≡ length xs
numbered-length f xs = numbered-length-by f 0 xs

pub enumerate-zip : {X : Type 0} (n : ℕ) (xs : List X)
    → enumerate_from n xs ≡ zip (range_with_len n (length xs)) xs
enumerate-zip n [] = refl
enumerate-zip n (x ∷ xs) = ap (λ ps. (n, x) ∷ ps) (enumerate-zip (n + 1) xs)

pub enumerate-push : {X : Type 0} (n : ℕ) (xs : List X) (y : X) (at : ℕ) → n + length xs ≡ at
    → enumerate_from n (xs ++ y ∷ []) ≡ enumerate_from n xs ++ (at, y) ∷ []
enumerate-push n [] y at e = ap (λ i. (i, y) ∷ []) (omega arith)
enumerate-push n (x ∷ xs) y at e = ap (λ ps. (n, x) ∷ ps) (enumerate-push (n + 1) xs y at (omega arith))

pub enumerate-append : {X : Type 0} (n : ℕ) (xs ys : List X) → enumerate_from n (xs ++ ys)
    ≡ enumerate_from n xs ++ enumerate_from (n + length xs) ys
enumerate-append n [] ys = ap (λ k. enumerate_from k ys) (omega arith)
enumerate-append n (x ∷ xs) ys = ap (λ rest. (n, x) ∷ rest) (enumerate-append (n + 1) xs ys
    ∙ ap (λ k. enumerate_from (n + 1) xs ++ enumerate_from k ys) (omega arith))

-- the same at each place
pub enumerate-kept : {X Y : Type 0} (f g : ℕ × X → Y) (n : ℕ) (xs : List X)
    → ((i : ℕ) (x : X) → n ≤ i → i < n + length xs → g (i, x) ≡ f (i, x))
    → map g (enumerate_from n xs) ≡ map f (enumerate_from n xs)
enumerate-kept f g n [] same = refl
enumerate-kept f g n (x ∷ xs) same =
    ap (λ y. y ∷ map g (enumerate_from (n + 1) xs)) (same n x (omega arith) (omega arith))
    ∙ ap (λ ys. f (n, x) ∷ ys) (enumerate-kept f g (n + 1) xs
    (λ i y behind within. same i y (omega arith) (omega arith)))

-- the same at each place but one
pub enumerate-set : {X Y : Type 0} (f g : ℕ × X → Y) (to : Y → Y) (n : ℕ) (xs : List X) (i at : ℕ) (y : Y)
    → n + i ≡ at
    → ((j : ℕ) (x : X) → (j ≡ at → ⊥) → j < n + length xs → g (j, x) ≡ f (j, x))
    → ((x : X) → g (at, x) ≡ to (f (at, x)))
    → slice_get (map f (enumerate_from n xs)) i ≡ Some y
    → map g (enumerate_from n xs) ≡ set (map f (enumerate_from n xs)) i (to y)
enumerate-set f g to n [] i at y e same here is = absurd (none-some y is)
enumerate-set f g to n (x ∷ xs) zero at y e same here is =
    let is_at : at ≡ n = omega arith in
    let first : g (n, x) ≡ to (f (n, x)) = subst (λ k. g (k, x) ≡ to (f (k, x))) is_at (here x) in
    ap (λ z. z ∷ map g (enumerate_from (n + 1) xs)) (first ∙ ap to (same_Some (f (n, x)) y is))
    ∙ ap (λ ys. to y ∷ ys) (enumerate-kept f g (n + 1) xs
    (λ j z behind within. same j z (λ q. omega arith) (omega arith)))
enumerate-set f g to n (x ∷ xs) (suc i) at y e same here is =
    ap (λ z. z ∷ map g (enumerate_from (n + 1) xs)) (same n x (λ q. omega arith) (omega arith))
    ∙ ap (λ ys. f (n, x) ∷ ys) (enumerate-set f g to (n + 1) xs i at y (omega arith)
    (λ j z apart within. same j z apart (omega arith)) here is)

pub enumerate-get : {X Y : Type 0} (f : ℕ × X → Y) (n : ℕ) (xs : List X) (i at : ℕ) → n + i ≡ at
    → slice_get (map f (enumerate_from n xs)) i ≡ option_map (λ x. f (at, x)) (slice_get xs i)
enumerate-get f n [] i at e = refl
enumerate-get f n (x ∷ xs) zero at e = ap (λ j. Some (f (j, x))) (omega arith)
enumerate-get f n (x ∷ xs) (suc i) at e = enumerate-get f (n + 1) xs i at (omega arith)

pub enumerate-item : {X : Type 0} (done left : List (ℕ × X)) (p : ℕ × X) (m : ℕ) (xs : List X)
    → done ++ p ∷ left ≡ enumerate_from m xs
    → (p.0 ≡ m + length done) × (slice_get xs (length done) ≡ Some p.1)
enumerate-item [] left p m [] is = absurd (cc)
enumerate-item [] left p m (x ∷ xs) is =
    let same : p ≡ (m, x) = cc in
    (ap (λ q. q.0) same ∙ omega arith, ap (λ q. Some q.1) (sym same))
enumerate-item (d ∷ done) left p m [] is = absurd (cc)
enumerate-item (d ∷ done) left p m (x ∷ xs) is =
    let rest : done ++ p ∷ left ≡ enumerate_from (m + 1) xs = cc in
    let later = enumerate-item done left p (m + 1) xs rest in
    let at = later.0 in
    (omega (arith, at), later.1)

pub enumerate-values : {X Y : Type 0} (f : X → Y) (m : ℕ) (xs : List X)
    → map (λ (p : ℕ × X). f p.1) (enumerate_from m xs) ≡ map f xs
enumerate-values f m [] = refl
enumerate-values f m (x ∷ xs) = ap (λ ys. f x ∷ ys) (enumerate-values f (m + 1) xs)

pub enumerate-same : {X : Type 0} (xs : List X) → map (λ (k : ℕ × X). k.1) (enumerate_from 0 xs) ≡ xs
enumerate-same {X} xs = enumerate-values (λ x. x) 0 xs ∙ as-they-are xs
  where
    as-they-are : (xs : List X) → map (λ x. x) xs ≡ xs
    as-they-are [] = refl
    as-they-are (x ∷ xs) = ap (λ ys. x ∷ ys) (as-they-are xs)

enumerate-range_get : {X : Type 0} (P : ℕ × X → Type 0) (from n : ℕ) (f : ℕ → X) (d : ℕ × X) (k : ℕ) → k < n
    → P (from + k, f k) → P (get_or (enumerate_from from (map f (range_with_len 0 n))) k d)
enumerate-range_get P from n f d k low holds =
    let items = map f (range_with_len 0 n) in
    subst P (sym (get_or-enumerate_from from items k d (omega (arith, low, length-map-range_with_len f 0 n))
    ∙ ap (λ x. (from + k, x)) (get_or-map-range_with_len f 0 n k k d.1 low (omega arith)))) holds

pub enumerate-range_all : {X : Type 0} (P : ℕ × X → Type 0) (from n : ℕ) (f : ℕ → X)
    → ((k : ℕ) → k < n → P (from + k, f k))
    → AllByRecursion P (enumerate_from from (map f (range_with_len 0 n)))
enumerate-range_all P from n f holds =
    let pairs = enumerate_from from (map f (range_with_len 0 n)) in
    recursion_from_All P pairs (All-from_get_or P pairs (0, f 0)
    (λ k l.
    let low : k < n =
    omega (
      arith,
      l,
      length-enumerate_from from (map f (range_with_len 0 n)),
      length-map-range_with_len f
          0 n,
    ) in
    enumerate-range_get P from n f (0, f 0) k low (holds k low)))
