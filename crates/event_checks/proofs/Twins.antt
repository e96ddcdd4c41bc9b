-- Lists in which nothing stands twice, tested from the front.
use Rattle.std.proofs.Common.{◌≡◌, inl, inr, ℕ, zero, suc, ◌+◌, ◌-◌, ◌<◌, ◌≤◌, List, [], ◌∷◌, length, drop, take}
use Rattle.std.proofs.Common.{Contains, Some, slice_get, get_or, refl, sym, ap, subst, arith, ◌∙◌}
use Rattle.std.proofs.lemmas.Bool.{cases_lt}
use Rattle.std.proofs.lemmas.Option.{slice_get-get_or, slice_get_within}
use Rattle.std.proofs.lemmas.List.{length-drop, take_all}
use Rattle.list_lemmas.proofs.Members.{IsAmong-from_Contains, IsAmong-place, IsAmong-from_place}
use Rattle.list_lemmas.proofs.Members.{Contains-from_IsAmong}

-- what stands behind an index
pub slice_get-drop : {X : Type 0} (xs : List X) (n k at : ℕ) → n + k ≡ at
    → slice_get (drop n xs) k ≡ slice_get xs at
slice_get-drop xs zero k at e = ap (slice_get xs) (omega (arith, e))
slice_get-drop [] (suc n) k at e = refl
slice_get-drop (x ∷ xs) (suc n) k zero e = absurd (omega (arith, e))
slice_get-drop (x ∷ xs) (suc n) k (suc at) e = slice_get-drop xs n k at (omega (arith, e))

-- all that stands behind an index
whole_behind : {X : Type 0} (xs : List X) (n : ℕ) → take (length xs - (n + 1)) (drop (n + 1) xs)
    ≡ drop (n + 1) xs
whole_behind xs n =
    take_all (length xs - (n + 1)) (drop (n + 1) xs) (omega (arith, length-drop (n + 1) xs))

-- nothing stands twice
abbrev pub EachOnce : {X : Type 0} → List X → Type 0
EachOnce {X} xs = (i j : ℕ) (x : X) → slice_get xs i ≡ Some x → slice_get xs j ≡ Some x → i ≡ j

-- nothing that stands before an index stands again behind its place
abbrev pub OnceBefore : {X : Type 0} → List X → ℕ → Type 0
OnceBefore {X} xs n =
    (i j : ℕ) (x : X) → i < n → i < j → slice_get xs i ≡ Some x → slice_get xs j ≡ Some x → ⊥

pub once_none : {X : Type 0} (xs : List X) → OnceBefore xs 0
once_none xs i j x low order is same = omega (arith, low)

-- an item that doesn't stand behind an index stands at none of them
pub not_behind : {X : Type 0} (xs : List X) (n j : ℕ) (x : X) → ¬ Contains (drop (n + 1) xs) x → n < j
    → slice_get xs j ≡ Some x → ⊥
not_behind xs n j x lacks order is =
    elim (cases_lt n j) [
      | inl below ↦ lacks (Contains-from_IsAmong (drop (n + 1) xs) x (IsAmong-from_place (drop (n + 1) xs) x
          (j - (n + 1)) (slice_get-drop xs (n + 1) (j - (n + 1)) j (omega arith) ∙ is)))
      | inr past ↦ omega (arith, past, order)
    ]

pub once_more : {X : Type 0} (xs : List X) (n : ℕ) (d : X) → OnceBefore xs n → n < length xs
    → ¬ Contains (take (length xs - (n + 1)) (drop (n + 1) xs)) (get_or xs n d) → OnceBefore xs (n + 1)
once_more xs n d before within lacks i j x low order is same =
    elim (cases_lt i n) [
      | inl below ↦ before i j x below order is same
      | inr past ↦
          let at : i ≡ n = omega arith in
          let here = slice_get-get_or xs n d within in
          not_behind xs n j (get_or xs n d)
          (subst (λ (l : List _). ¬ Contains l (get_or xs n d)) (whole_behind xs n) lacks) (omega arith)
          (same ∙ sym is ∙ ap (slice_get xs) at ∙ here)
    ]

-- at the end of the list nothing stands twice
pub once_end : {X : Type 0} (xs : List X) (n : ℕ) → length xs ≤ n → OnceBefore xs n → EachOnce xs
once_end xs n all once i j x is same =
    elim (cases_lt i j) [
      | inl order ↦ absurd (once i j x (omega (arith, slice_get_within xs i x is)) order is same)
      | inr past ↦ elim (cases_lt j i) [
        | inl order ↦ absurd (once j i x (omega (arith, slice_get_within xs j x same)) order same is)
        | inr before ↦ omega arith
      ]
    ]

-- an item that stands again behind its place
pub once_not : {X : Type 0} (xs : List X) (n : ℕ) (d : X) → n < length xs
    → Contains (take (length xs - (n + 1)) (drop (n + 1) xs)) (get_or xs n d) → ¬ EachOnce xs
once_not xs n d within again once =
    let behind = subst (λ (l : List _). Contains l (get_or xs n d)) (whole_behind xs n) again in
    let (k, is) = IsAmong-place (drop (n + 1) xs) (get_or xs n d)
    (IsAmong-from_Contains (drop (n + 1) xs) (get_or xs n d) behind) in
    let same : n ≡ n + 1 + k =
    once n (n + 1 + k) (get_or xs n d) (slice_get-get_or xs n d within)
    (sym (slice_get-drop xs (n + 1) k (n + 1 + k) refl) ∙ is) in
    omega (arith, same)
