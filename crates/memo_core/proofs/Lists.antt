-- Lists: what passes a test and what doesn't, in a list that is turned round or cut.
use Rattle.std.proofs.Common.{◌≡◌, ℕ, suc, ◌≤◌, ◌-◌, ◌+◌, Bool, true, false, cond, not, ◌⊎◌, inl, inr}
use Rattle.std.proofs.Common.{List, [], ◌∷◌, ◌++◌, length, take, drop, slice_get, reverse, filter}
use Rattle.std.proofs.Common.{Option, Some, None, IfSome, IsSome, is_some, All, refl, sym, ap, ◌∙◌, arith}
use Rattle.std.proofs.Common.{append-nil, true≢false}
use Rattle.std.specs.List.{find}
use Rattle.std.proofs.lemmas.List.{reverse-append, length-reverse, length-append, length-drop}
use Rattle.std.proofs.lemmas.List.{take-append-drop}
use Rattle.std.proofs.lemmas.List.Elements.{filter-append}
use Rattle.std.proofs.Math.Seq.{drop-append_seam}

module _ {X : Type 0} where
  pub reverse-one_more : (x : X) (xs : List X) → reverse (x ∷ xs) ≡ reverse xs ++ x ∷ []
  reverse-one_more x xs = reverse-append (x ∷ []) xs

  pub reverse_short : (xs : List X) → length xs ≤ 1 → reverse xs ≡ xs
  reverse_short [] h = refl
  reverse_short (x ∷ []) h = refl
  reverse_short (x ∷ y ∷ xs) h = absurd (omega arith)

  -- the first ones, turned round, are the last ones of the list turned round
  pub reverse-take : (n : ℕ) (xs : List X) → reverse (take n xs) ≡ drop (length xs - n) (reverse xs)
  reverse-take n xs =
      let behind : length (reverse (drop n xs)) ≡ length xs - n =
      length-reverse (drop n xs) ∙ length-drop n xs
      in
      let turned : reverse xs ≡ reverse (drop n xs) ++ reverse (take n xs) =
      ap reverse (sym (take-append-drop n xs)) ∙ reverse-append (take n xs) (drop n xs) in
      sym (drop-append_seam (reverse (drop n xs)) (reverse (take n xs)))
      ∙ ap (λ l. drop (length (reverse (drop n xs))) l) (sym turned) ∙ ap (λ k. drop k (reverse xs)) behind

module _ {X : Type 0} (p : X → Bool) where
  last_or_not : (b : Bool) (x : X) (fs gs : List X) → fs ≡ reverse gs
      → fs ++ cond b (x ∷ []) [] ≡ reverse (cond b (x ∷ gs) gs)
  last_or_not true x fs gs e = ap (λ l. l ++ x ∷ []) e ∙ sym (reverse-one_more x gs)
  last_or_not false x fs gs e = append-nil fs ∙ e

  pub filter-reverse : (xs : List X) → filter p (reverse xs) ≡ reverse (filter p xs)
  filter-reverse [] = refl
  filter-reverse (x ∷ xs) = ap (filter p) (reverse-one_more x xs) ∙ filter-append p (reverse xs) (x ∷ [])
      ∙ last_or_not (p x) x (filter p (reverse xs)) (filter p xs) (filter-reverse xs)

  first_or_later : (b : Bool) (x : X) (o : Option X) (fs : List X) → o ≡ slice_get fs 0
      → cond b (Some x) o ≡ slice_get (cond b (x ∷ fs) fs) 0
  first_or_later true x o fs e = refl
  first_or_later false x o fs e = e

  -- what is found is the first one that passes
  pub find_is_first : (xs : List X) → find p xs ≡ slice_get (filter p xs) 0
  find_is_first [] = refl
  find_is_first (x ∷ xs) = first_or_later (p x) x (find p xs) (filter p xs) (find_is_first xs)

  -- where at most one passes it doesn't matter from which end it is looked for
  pub find-reverse : (xs : List X) → length (filter p xs) ≤ 1 → find p (reverse xs) ≡ find p xs
  find-reverse xs once = find_is_first (reverse xs)
      ∙ ap (λ l. slice_get l 0) (filter-reverse xs ∙ reverse_short (filter p xs) once)
      ∙ sym (find_is_first xs)

  kept_or_not : (b : Bool) (x : X) (fs gs xs : List X) → (length fs ≤ 0 → gs ≡ xs)
      → length (cond b (x ∷ fs) fs) ≤ 0 → cond (not b) (x ∷ gs) gs ≡ x ∷ xs
  kept_or_not true x fs gs xs on h = absurd (omega arith)
  kept_or_not false x fs gs xs on h = ap (λ l. x ∷ l) (on h)

  -- where none passes nothing is taken out
  pub none_passes : (xs : List X) → length (filter p xs) ≤ 0 → filter (λ x. not (p x)) xs ≡ xs
  none_passes [] h = refl
  none_passes (x ∷ xs) h =
      kept_or_not (p x) x (filter p xs) (filter (λ y. not (p y)) xs) xs (none_passes xs) h

  taken_or_not : (b : Bool) (x : X) (gs : List X) → p x ≡ b → filter p gs ≡ []
      → filter p (cond (not b) (x ∷ gs) gs) ≡ []
  taken_or_not true x gs is e = e
  taken_or_not false x gs is e = ap (λ b. cond b (x ∷ filter p gs) (filter p gs)) is ∙ e

  -- what is left passes no more
  pub none_left : (xs : List X) → filter p (filter (λ x. not (p x)) xs) ≡ []
  none_left [] = refl
  none_left (x ∷ xs) = taken_or_not (p x) x (filter (λ y. not (p y)) xs) refl (none_left xs)

  longer : (b : Bool) (x : X) (hs : List X) → length hs ≤ length (cond b (x ∷ hs) hs)
  longer true x hs = omega arith
  longer false x hs = omega arith

  counted_or_not : (b : Bool) (x : X) (fs gs : List X) → length fs ≤ length gs
      → length (cond b (x ∷ fs) fs) ≤ length (cond b (x ∷ gs) gs)
  counted_or_not true x fs gs h = omega arith
  counted_or_not false x fs gs h = h

  behind_or_not : (b : Bool) (x : X) (gs hs : List X) → length (filter p gs) ≤ length hs
      → length (filter p (cond b (x ∷ gs) gs)) ≤ length (cond (p x) (x ∷ hs) hs)
  behind_or_not true x gs hs h = counted_or_not (p x) x (filter p gs) hs h
  behind_or_not false x gs hs h = omega (arith, h, longer (p x) x hs)

  -- of fewer items no more pass
  pub filter-filter_le : (q : X → Bool) (xs : List X) → length (filter p (filter q xs)) ≤ length (filter p xs)
  filter-filter_le q [] = omega arith
  filter-filter_le q (x ∷ xs) = behind_or_not (q x) x (filter q xs) (filter p xs) (filter-filter_le q xs)

  filter_parts : (n : ℕ) (xs : List X) → filter p xs ≡ filter p (take n xs) ++ filter p (drop n xs)
  filter_parts n xs = ap (filter p) (sym (take-append-drop n xs)) ∙ filter-append p (take n xs) (drop n xs)

  pub filter-drop_le : (n : ℕ) (xs : List X) → length (filter p (drop n xs)) ≤ length (filter p xs)
  filter-drop_le n xs = omega (
    arith,
    ap length (filter_parts n xs),
    length-append (filter p (take n xs)) (filter p (drop n xs)),
  )

  front_or_end : (fs gs : List X) → length (fs ++ gs) ≤ 1
      → (slice_get gs 0 ≡ None) ⊎ (slice_get gs 0 ≡ slice_get (fs ++ gs) 0)
  front_or_end fs [] h = inl refl
  front_or_end [] (g ∷ gs) h = inr refl
  front_or_end (f ∷ fs) (g ∷ gs) h = absurd (omega (arith, length-append fs (g ∷ gs)))

  -- where at most one passes it is found behind the first n, or nothing is
  pub find-drop : (n : ℕ) (xs : List X) → length (filter p xs) ≤ 1
      → (find p (drop n xs) ≡ None) ⊎ (find p (drop n xs) ≡ find p xs)
  find-drop n xs once =
      let parts = filter_parts n xs in
      elim (front_or_end (filter p (take n xs)) (filter p (drop n xs))
      (omega (arith, once, ap length parts))) [
        | inl e ↦ inl (find_is_first (drop n xs) ∙ e)
        | inr e ↦ inr (find_is_first (drop n xs) ∙ e ∙ ap (λ l. slice_get l 0) (sym parts)
            ∙ sym (find_is_first xs))
      ]

  has_or_later : (P : X → Type 0) (b : Bool) (x : X) (o : Option X) → p x ≡ b → P x
      → IfSome o (λ y. P y × (p y ≡ true)) → IfSome (cond b (Some x) o) (λ y. P y × (p y ≡ true))
  has_or_later P true x o is holds later = (holds, is)
  has_or_later P false x o is holds later = later

  -- what is found passes, and has what all have
  pub find_has : (P : X → Type 0) (xs : List X) → All P xs → IfSome (find p xs) (λ x. P x × (p x ≡ true))
  find_has P [] all = tt
  find_has P (x ∷ xs) all = has_or_later P (p x) x (find p xs) refl (all 0 x (omega arith))
      (find_has P xs (λ k d h. all (suc k) d (omega arith)))

  counts_or_not : (b : Bool) (x : X) (fs gs xs : List X) → length fs + length gs ≡ length xs
      → length (cond b (x ∷ fs) fs) + length (cond (not b) (x ∷ gs) gs) ≡ suc (length xs)
  counts_or_not true x fs gs xs h = omega arith
  counts_or_not false x fs gs xs h = omega arith

  -- each one passes or doesn't
  pub parts_count : (xs : List X) → length (filter p xs) + length (filter (λ x. not (p x)) xs) ≡ length xs
  parts_count [] = refl
  parts_count (x ∷ xs) = counts_or_not (p x) x (filter p xs) (filter (λ y. not (p y)) xs) xs (parts_count xs)

  some_first : (fs : List X) → IsSome (slice_get fs 0) → 1 ≤ length fs
  some_first [] h = absurd (true≢false (sym h))
  some_first (f ∷ fs) h = omega arith

  -- where one is found fewer are left
  pub found_counts : (xs : List X) → IsSome (find p xs)
      → length (filter (λ x. not (p x)) xs) + 1 ≤ length xs
  found_counts xs h =
      omega (arith, parts_count xs, some_first (filter p xs) (sym (ap is_some (find_is_first xs)) ∙ h))

  none_first : (fs : List X) → slice_get fs 0 ≡ None → length fs ≤ 0
  none_first [] h = omega arith
  none_first (f ∷ fs) h = absurd (true≢false (ap is_some h))

  -- where none is found nothing is taken out
  pub none_found : (xs : List X) → find p xs ≡ None → filter (λ x. not (p x)) xs ≡ xs
  none_found xs h = none_passes xs (none_first (filter p xs) (sym (find_is_first xs) ∙ h))
