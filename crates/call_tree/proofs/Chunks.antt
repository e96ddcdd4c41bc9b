-- The chunks of a list, one after the other.
use Rattle.std.proofs.Common.{◌≡◌, ℕ, ◌+◌, ◌*◌, ◌/◌, ◌<◌, ◌≤◌, zero, suc, List, [], ◌∷◌, ◌++◌, length}
use Rattle.std.proofs.Common.{take, drop, map, refl}
use Rattle.std.proofs.Common.{sym, ap, ◌∙◌, arith, length-drop, cond, inl, inr, Bool}
use Rattle.std.proofs.Common.{get_or}
use Rattle.std.proofs.lemmas.List.{drop-drop, length-map}
use Rattle.std.proofs.Math.Seq.{take-append_seam, drop-append_seam}
use Rattle.std.proofs.lemmas.List.FromFn.{length-map-range_with_len}
use Rattle.std.proofs.lemmas.Bool.{cases_lt, le-leb}
use Rattle.std.specs.List.{range_with_len}
use Rattle.std.proofs.lemmas.Bool.{lt-leb}
use Rattle.node_key.specs.Bound.{chunks, group, grouped, bound_within, bound, stop_of}
use Rattle.node_key.specs.Items.{end_of}
use Rattle.node_key.specs.declared.item.Item.{Item}

-- chunk k
abbrev pub chunk : List Item → ℕ → List Item
chunk is k = take 8 (drop (8 * k) is)

-- the chunks behind the first one
chunks_behind : (is : List Item) (a n : ℕ)
    → map (chunk is) (range_with_len (a + 1) n) ≡ map (chunk (drop 8 is)) (range_with_len a n)
chunks_behind is a zero = refl
chunks_behind is a (suc n) =
    let here : 8 * (a + 1) ≡ 8 + 8 * a = omega arith in
    let same : chunk is (a + 1) ≡ chunk (drop 8 is) a =
    ap (λ (m : ℕ). take 8 (drop m is)) here ∙ ap (λ (l : List Item). take 8 l) (sym (drop-drop (8 * a) 8 is))
    in
    ap (λ (c : List Item). c ∷ map (chunk is) (range_with_len (a + 1 + 1) n)) same
    ∙ ap (λ (cs : List (List Item)). chunk (drop 8 is) a ∷ cs) (chunks_behind is (a + 1) n)

-- the first chunk, and those of what is left
pub chunks-some : (is : List Item) → 0 < length is → chunks is ≡ take 8 is ∷ chunks (drop 8 is)
chunks-some is some =
    let number : (length is + 7) / 8 ≡ suc ((length (drop 8 is) + 7) / 8) =
    omega (arith, length-drop 8 is, some) in
    ap (λ (n : ℕ). map (chunk is) (range_with_len 0 n)) number
    ∙ ap (λ (cs : List (List Item)). take 8 is ∷ cs) (chunks_behind is 0 ((length (drop 8 is) + 7) / 8))

pub grouped-some : (is : List Item) → 0 < length is → grouped is ≡ group (take 8 is) ∷ grouped (drop 8 is)
unfolding grouped
grouped-some is some = ap (map group) (chunks-some is some)

pub grouped-none : (is : List Item) → is ≡ [] → grouped is ≡ []
unfolding grouped
grouped-none is none = ap (λ (l : List Item). map group (chunks l)) none

pub length-grouped : (is : List Item) → length (grouped is) ≡ (length is + 7) / 8
unfolding grouped
length-grouped is = length-map _ group ∙ length-map-range_with_len (chunk is) 0 ((length is + 7) / 8)

-- what holds of no items, and of items where it holds of those behind the first chunk, holds of all items
pub by_chunks : (P : List Item → Type 0) → P [] → ((is : List Item) → 0 < length is → P (drop 8 is) → P is)
    → (n : ℕ) (is : List Item) → length is ≤ n → P is
by_chunks P none some n [] h = none
by_chunks P none some zero (i ∷ is) h = absurd (omega arith)
by_chunks P none some (suc n) (i ∷ is) h =
    some (i ∷ is) (omega arith) (by_chunks P none some n (drop 8 (i ∷ is))
    (omega (arith, length-drop 8 (i ∷ is))))

-- whether a list is grouped once more
kept : (n : ℕ) (is : List Item) → length is ≤ 8 → bound_within (suc n) is ≡ is
kept n is few = ap (λ (b : Bool). cond b is (bound_within n (grouped is))) (le-leb (length is) 8 few)

cut : (n : ℕ) (is : List Item) → 8 < length is → bound_within (suc n) is ≡ bound_within n (grouped is)
cut n is more = ap (λ (b : Bool). cond b is (bound_within n (grouped is))) (lt-leb (length is) 8 more)

-- once the number of times is at least that of the items it doesn't matter
bound_within-enough : (n m : ℕ) (is : List Item) → length is ≤ n → length is ≤ m
    → bound_within n is ≡ bound_within m is
bound_within-enough zero zero is h k = refl
bound_within-enough zero (suc m) is h k =
    elim (cases_lt 8 (length is)) [
      | inl more ↦ absurd (omega (arith, more))
      | inr few ↦ sym (kept m is few)
    ]
bound_within-enough (suc n) zero is h k = kept n is (omega arith)
bound_within-enough (suc n) (suc m) is h k =
    elim (cases_lt 8 (length is)) [
      | inl more ↦ cut n is more
          ∙ bound_within-enough n m (grouped is) (omega (arith, length-grouped is))
          (omega (arith, length-grouped is))
          ∙ sym (cut m is more)
      | inr few ↦ kept n is few ∙ sym (kept m is few)
    ]

-- a list of at most 8 items is left as it is
pub bound-few : (is : List Item) → length is ≤ 8 → bound is ≡ is
unfolding bound
bound-few [] few = refl
bound-few (i ∷ is) few = bound_within-enough (length (i ∷ is)) (suc (length is)) (i ∷ is) (omega arith)
    (omega arith) ∙ kept (length is) (i ∷ is) few

-- a longer one is grouped first
pub bound-more : (is : List Item) → 8 < length is → bound is ≡ bound (grouped is)
unfolding bound
bound-more is more =
    bound_within-enough (length is) (suc (length is)) is (omega arith) (omega arith) ∙ cut (length is) is more
    ∙ bound_within-enough (length is) (length (grouped is)) (grouped is) (omega (arith, length-grouped is))
    (omega arith)

-- the first 8 items are a chunk, and the others behind it are left
pub front_of : (c rest all : List Item) → c ++ rest ≡ all → length c ≡ 8 → (c ≡ take 8 all)
    × (rest ≡ drop 8 all)
front_of c rest all e n = (
  sym (take-append_seam c rest) ∙ ap (λ (k : ℕ). take k (c ++ rest)) n ∙ ap (take 8) e,
  sym (drop-append_seam c rest) ∙ ap (λ (k : ℕ). drop k (c ++ rest)) n ∙ ap (drop 8) e,
)

-- when the last item ends
pub stop_of-last : (is : List Item) (n : ℕ) (d : Item) → length is ≡ suc n
    → end_of (get_or is n d) ≡ stop_of is
stop_of-last [] n d e = absurd (omega arith)
stop_of-last (i ∷ []) n d e = let none : n ≡ 0 = omega arith in ap (λ (k : ℕ). end_of (get_or (i ∷ []) k d))
    none
stop_of-last (i ∷ j ∷ is) zero d e = absurd (omega arith)
stop_of-last (i ∷ j ∷ is) (suc n) d e = stop_of-last (j ∷ is) n d (omega arith)
