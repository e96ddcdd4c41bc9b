-- The kernels of a track's bundles, and those that are called, one more.
use Rattle.std.proofs.Common.{◌≡◌, ℕ, ◌+◌, ◌*◌, ◌-◌, ◌/◌, ◌<◌, ◌≤◌, zero, suc, List, [], ◌∷◌, ◌++◌, length}
use Rattle.std.proofs.Common.{Bool, true, false, cond, map, nat_eq, nat_lt}
use Rattle.std.proofs.Common.{refl, ap, sym, subst, ◌∙◌, arith, inl, inr}
use Rattle.std.specs.List.{flat_map, list_any, position_or_len, range_with_len}
use Rattle.std.proofs.lemmas.Bool.{cases_eq, le-ltb, lt-ltb}
use Rattle.std.proofs.lemmas.Bool.Decides.{Decides-eqb}
use Rattle.std.proofs.lemmas.List.{append-nil, map-append}
use Rattle.std.proofs.lemmas.List.FromFn.{map-range_with_len_more}
use Rattle.list_lemmas.proofs.Found.{any_place_within}
use Rattle.list_lemmas.proofs.Maps.{flat_map-push}
use Rattle.list_lemmas.proofs.Places.{found_alike}
use Rattle.paje_lines.proofs.DifferentTexts.{different-push}
use Rattle.paje_lines.proofs.DistinctItems.{new_among}
use Rattle.paje_print.specs.Generated.{bundles_on, track_of_bundle}
use Rattle.paje_print.proofs.GeneratedDistinct.{different, each-stands}
use Rattle.paje_print.proofs.GeneratedTimes.{bundles-push_off, bundles-push_on}

-- ---- a track's bundles

-- the first so many bundles of a track
abbrev pub bundles_of_track : ℕ → ℕ → List ℕ
bundles_of_track track n = map (λ i. 128 * i + track) (range_with_len 0 n)

-- how many of the first bundles a track has
abbrev pub bundles_there : ℕ → ℕ → ℕ
bundles_there track count = (count + 127 - track) / 128

one_there : (track n : ℕ) → track < 128 → track_of_bundle n ≡ track
    → bundles_there track (suc n) ≡ bundles_there track n + 1
one_there track n small on = omega (arith, small, on)

same_there : (track n : ℕ) → track < 128 → (track_of_bundle n ≡ track → ⊥)
    → bundles_there track (suc n) ≡ bundles_there track n
same_there track n small off = omega (arith, small, off)

last_there : (track n : ℕ) → track < 128 → track_of_bundle n ≡ track → 128 * bundles_there track n + track ≡ n
last_there track n small on = omega (arith, small, on)

none_there : (track : ℕ) → bundles_there track 0 ≡ 0
none_there track = omega arith

pub there_within : (track count i : ℕ) → i < bundles_there track count → 128 * i + track < count
there_within track count i small = omega (arith, small)

next_of_track : (track i : ℕ)
    → bundles_of_track track (i + 1) ≡ bundles_of_track track i ++ (128 * i + track) ∷ []
next_of_track track i = map-range_with_len_more (λ j. 128 * j + track) 0 i i (omega arith)

pub bundles_of : (track count : ℕ) → track < 128
    → bundles_on track count ≡ bundles_of_track track (bundles_there track count)
bundles_of track zero small = ap (bundles_of_track track) (sym (none_there track))
bundles_of track (suc n) small =
    let i : ℕ = bundles_there track n in
    let before : bundles_on track n ≡ bundles_of_track track i = bundles_of track n small in
    elim (cases_eq (track_of_bundle n) track) [
      | inl on ↦ bundles-push_on track n on
          ∙ (ap (λ (bs : List ℕ). bs ++ n ∷ []) before
          ∙ (ap (λ (b : ℕ). bundles_of_track track i ++ b ∷ []) (sym (last_there track n small on))
          ∙ (sym (next_of_track track i)
          ∙ ap (bundles_of_track track) (sym (one_there track n small on)))))
      | inr off ↦ bundles-push_off track n off
          ∙ (before ∙ ap (bundles_of_track track) (sym (same_there track n small off)))
    ]

-- what is made of one bundle more
pub more_of_track : {X : Type 0} (f : ℕ → X) (track i : ℕ)
    → map f (bundles_of_track track i) ++ f (128 * i + track) ∷ [] ≡ map f (bundles_of_track track (i + 1))
more_of_track f track i = sym (ap (map f) (next_of_track track i)
    ∙ map-append f (bundles_of_track track i) ((128 * i + track) ∷ []))

pub flat_of_track : {X : Type 0} (f : ℕ → List X) (track i : ℕ)
    → flat_map f (bundles_of_track track i) ++ f (128 * i + track)
    ≡ flat_map f (bundles_of_track track (i + 1))
flat_of_track f track i = sym (ap (flat_map f) (next_of_track track i)
    ∙ flat_map-push f (bundles_of_track track i) (128 * i + track))

-- ---- the kernels that are called, one more

-- a number is among the different ones where it stands in the list
any_alike : (xs : List ℕ) (y : ℕ) → list_any (λ x. nat_eq x y) xs ≡ list_any (nat_eq y) (different xs)
any_alike xs y = by (list_any (λ x. nat_eq x y) xs) refl
  where
    by : (b : Bool) → list_any (λ x. nat_eq x y) xs ≡ b → b ≡ list_any (nat_eq y) (different xs)
    by true is = sym (found_alike y (different xs) xs (each-stands xs) is)
    by false is = sym (new_among nat_eq Decides-eqb xs y is)

-- whether the place that was found is one of theirs
abbrev stands_there : List ℕ → ℕ → Bool
stands_there called y = nat_lt (position_or_len (nat_eq y) called) (length called)

called_push : (xs : List ℕ) (y : ℕ)
    → different (xs ++ y ∷ []) ≡ different xs ++ cond (stands_there (different xs) y) [] (y ∷ [])
called_push xs y = different-push nat_eq xs y ∙ ap (λ b. different xs ++ cond b [] (y ∷ []))
    (any_alike xs y ∙ any_place_within (nat_eq y) (different xs))

called_by : (called xs : List ℕ) (y : ℕ) (b : Bool) → stands_there called y ≡ b → called ≡ different xs
    → called ++ cond b [] (y ∷ []) ≡ different (xs ++ y ∷ [])
called_by called xs y b stands are =
    ap (λ b. called ++ cond b [] (y ∷ [])) (sym stands)
    ∙ (ap (λ (ks : List ℕ). ks ++ cond (stands_there ks y) [] (y ∷ [])) are ∙ sym (called_push xs y))

pub called_again : (called xs : List ℕ) (y place : ℕ) → place ≡ position_or_len (nat_eq y) called
    → place < length called → called ≡ different xs → called ≡ different (xs ++ y ∷ [])
called_again called xs y place is small are = sym (append-nil called)
    ∙ called_by called xs y true (lt-ltb (position_or_len (nat_eq y) called) (length called)
    (subst (λ p. p < length called) is small)) are

pub called_new : (called xs : List ℕ) (y place : ℕ) → place ≡ position_or_len (nat_eq y) called
    → length called ≤ place → called ≡ different xs → called ++ y ∷ [] ≡ different (xs ++ y ∷ [])
called_new called xs y place is large are =
    called_by called xs y false (le-ltb (position_or_len (nat_eq y) called) (length called)
    (subst (λ p. length called ≤ p) is large)) are
