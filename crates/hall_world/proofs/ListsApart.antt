-- Lists that are one another in another order: an item first and the others behind it, and what all seats have as
-- what one has and what the others have.
use Rattle.std.proofs.Common.{◌≡◌, ◌+◌, ℕ, zero, suc, List, [], ◌∷◌, ◌++◌, Some, ap, arith, drop, slice_get, slice_set}
use Rattle.std.proofs.Common.{subst, sym, take}
use Rattle.std.proofs.lemmas.List.Sorted.{IsPermutation-append_right, IsPermutation-cons, IsPermutation-middle}
use Rattle.std.proofs.lemmas.List.Sorted.{IsPermutation-refl, IsPermutation-sym, IsPermutation-trans}
use Rattle.std.proofs.lemmas.Option.{none-some, same_Some}
use Rattle.std.specs.List.{flat_map}
use Rattle.std.specs.List.Sorted.{IsPermutation}
use Rattle.hall_world.specs.Seats.{without_at}
use Rattle.hall_world.specs.declared.world.SeatView.{SeatView}

-- ---- one item of a list

without_at-suc : {X : Type 0} (i : ℕ) (x : X) (xs : List X) → without_at (suc i) (x ∷ xs) ≡ x ∷ without_at i xs
without_at-suc i x xs =
    ap (λ n. x ∷ (take i xs ++ drop n (x ∷ xs))) (let e : suc i + 1 ≡ suc (i + 1) = omega arith in e)

-- two items change places
swapped : {X : Type 0} (x y : X) (zs : List X) → IsPermutation (x ∷ y ∷ zs) (y ∷ x ∷ zs)
swapped x y zs = IsPermutation-middle (x ∷ []) y zs

-- the item of an index first
pub item_first : {X : Type 0} (xs : List X) (i : ℕ) (x : X) → slice_get xs i ≡ Some x
    → IsPermutation xs (x ∷ without_at i xs)
item_first [] i x at = absurd (none-some x at)
item_first (y ∷ ys) zero x at =
    subst (λ z. IsPermutation (y ∷ ys) (z ∷ ys)) (same_Some y x at) (IsPermutation-refl (y ∷ ys))
item_first (y ∷ ys) (suc i) x at =
    subst (λ zs. IsPermutation (y ∷ ys) (x ∷ zs)) (sym (without_at-suc i y ys))
    (IsPermutation-trans (y ∷ ys) (y ∷ x ∷ without_at i ys) (x ∷ y ∷ without_at i ys)
    (IsPermutation-cons y ys (x ∷ without_at i ys) (item_first ys i x at))
    (swapped y x (without_at i ys)))

-- another item in its place
pub set_first : {X : Type 0} (xs : List X) (i : ℕ) (x y : X) → slice_get xs i ≡ Some x
    → IsPermutation (slice_set xs i y) (y ∷ without_at i xs)
set_first [] i x y at = absurd (none-some x at)
set_first (z ∷ zs) zero x y at = IsPermutation-refl (y ∷ zs)
set_first (z ∷ zs) (suc i) x y at =
    subst (λ ws. IsPermutation (z ∷ slice_set zs i y) (y ∷ ws)) (sym (without_at-suc i z zs))
    (IsPermutation-trans (z ∷ slice_set zs i y) (z ∷ y ∷ without_at i zs) (y ∷ z ∷ without_at i zs)
    (IsPermutation-cons z (slice_set zs i y) (y ∷ without_at i zs) (set_first zs i x y at))
    (swapped z y (without_at i zs)))

-- ---- what one seat has

-- what the other seats have
abbrev pub of_the_others : {X : Type 0} (f : SeatView → List X) → List SeatView → ℕ → List X
of_the_others f [] i = []
of_the_others f (s ∷ seats) zero = flat_map f seats
of_the_others f (s ∷ seats) (suc i) = f s ++ of_the_others f seats i

-- three lists of which the first two change places
rotated : {X : Type 0} (xs ys zs : List X) → IsPermutation (xs ++ (ys ++ zs)) (ys ++ (xs ++ zs))
rotated [] ys zs = IsPermutation-refl (ys ++ zs)
rotated (x ∷ xs) ys zs =
    IsPermutation-trans (x ∷ (xs ++ (ys ++ zs))) (x ∷ (ys ++ (xs ++ zs))) (ys ++ (x ∷ (xs ++ zs)))
    (IsPermutation-cons x (xs ++ (ys ++ zs)) (ys ++ (xs ++ zs)) (rotated xs ys zs))
    (IsPermutation-sym (ys ++ x ∷ (xs ++ zs)) (x ∷ (ys ++ (xs ++ zs))) (IsPermutation-middle ys x (xs ++ zs)))

-- what all seats have is what one has and what the others have
pub seat_first : {X : Type 0} (f : SeatView → List X) (seats : List SeatView) (i : ℕ) (seat : SeatView)
    → slice_get seats i ≡ Some seat → IsPermutation (flat_map f seats) (f seat ++ of_the_others f seats i)
seat_first f [] i seat at = absurd (none-some seat at)
seat_first f (s ∷ seats) zero seat at =
    subst (λ z. IsPermutation (f s ++ flat_map f seats) (f z ++ flat_map f seats)) (same_Some s seat at)
    (IsPermutation-refl (f s ++ flat_map f seats))
seat_first f (s ∷ seats) (suc i) seat at =
    IsPermutation-trans (f s ++ flat_map f seats) (f s ++ (f seat ++ of_the_others f seats i))
    (f seat ++ (f s ++ of_the_others f seats i))
    (IsPermutation-append_right (f s) (flat_map f seats) (f seat ++ of_the_others f seats i)
    (seat_first f seats i seat at))
    (rotated (f s) (f seat) (of_the_others f seats i))

-- so it is with another seat in its place
pub other_first : {X : Type 0} (f : SeatView → List X) (seats : List SeatView) (i : ℕ) (seat after : SeatView)
    → slice_get seats i ≡ Some seat
    → IsPermutation (flat_map f (slice_set seats i after)) (f after ++ of_the_others f seats i)
other_first f [] i seat after at = absurd (none-some seat at)
other_first f (s ∷ seats) zero seat after at = IsPermutation-refl (f after ++ flat_map f seats)
other_first f (s ∷ seats) (suc i) seat after at =
    IsPermutation-trans (f s ++ flat_map f (slice_set seats i after))
    (f s ++ (f after ++ of_the_others f seats i)) (f after ++ (f s ++ of_the_others f seats i))
    (IsPermutation-append_right (f s) (flat_map f (slice_set seats i after))
    (f after ++ of_the_others f seats i) (other_first f seats i seat after at))
    (rotated (f s) (f after) (of_the_others f seats i))
