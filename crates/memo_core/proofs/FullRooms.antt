-- Rooms of numbers in a row, as full as they can be.
use Rattle.std.proofs.Common.{◌≡◌, ℕ, zero, suc, ◌+◌, ◌-◌, ◌≤◌, ◌<◌, ◌==◌, ◌&&◌, true, cond}
use Rattle.std.proofs.Common.{List, [], ◌∷◌, ◌++◌, length, drop, ◌⊎◌, inl, inr, Some, None}
use Rattle.std.proofs.Common.{refl, sym, ap, ◌∙◌, arith}
use Rattle.std.specs.List.{find}
use Rattle.std.specs.Option.{option_map}
use Rattle.std.proofs.lemmas.Bool.{cases_Bool, eqb-true}
use Rattle.std.proofs.lemmas.List.{length-append, append_assoc}
use Rattle.memo_core.proofs.Lists.{none_found}
use Rattle.memo_core.proofs.MemoLaws.{find-not_last, least_recent_goes}
use Rattle.memo_core.specs.Examples.{idle_flat, item_of, numbers_from}
use Rattle.memo_core.specs.Memo.{MemoItem, is_item_of, entry_under, with_recent, most_recent}
use Rattle.whole_profiles.specs.declared.entry.Entry.{Entry}
use Rattle.memo_core.specs.declared.limits.TheConstants.{MEMO_ENTRIES}
use Rattle.whole_profiles.specs.declared.memo_kind.MemoKind.TheVariants.{Flat}

numbers_count : (n k : ℕ) → length (numbers_from n k) ≡ k
unfolding numbers_from
numbers_count n zero = refl
numbers_count n (suc k) = ap suc (numbers_count (suc n) k)

-- the last number
numbers_more : (n k : ℕ)
    → numbers_from n (suc k) ≡ numbers_from n k ++ item_of (n + k) Flat (idle_flat (n + k)) ∷ []
unfolding numbers_from
numbers_more n zero =
    let last : n ≡ n + 0 = omega arith in
    ap (λ (m : ℕ). item_of m Flat (idle_flat m) ∷ []) last
numbers_more n (suc k) =
    let last : suc n + k ≡ n + suc k = omega arith in
    ap (λ l. item_of n Flat (idle_flat n) ∷ l) (numbers_more (suc n) k
    ∙ ap (λ (m : ℕ). numbers_from (suc n) k ++ item_of m Flat (idle_flat m) ∷ []) last)

-- a number that isn't among them isn't found
numbers_lack : (n k m : ℕ) → (m < n) ⊎ (n + k ≤ m) → find (is_item_of m Flat) (numbers_from n k) ≡ None
unfolding numbers_from
numbers_lack n zero m out = refl
numbers_lack n (suc k) m out = elim (cases_Bool (m == n)) [
  | inl same ↦ absurd (elim out [
    | inl below ↦ omega (arith, below, eqb-true m n same)
    | inr above ↦ omega (arith, above, eqb-true m n same)
  ])
  | inr differs ↦ ap (λ b. cond (b && true) (Some (item_of n Flat (idle_flat n)))
      (find (is_item_of m Flat) (numbers_from (suc n) k))) differs
      ∙ numbers_lack (suc n) k m (elim out [
        | inl below ↦ inl (omega (arith, below))
        | inr above ↦ inr (omega (arith, above))
      ])
]

first_of_full : numbers_from 0 4096 ≡ item_of 0 Flat (idle_flat 0) ∷ numbers_from 1 4095
unfolding numbers_from
first_of_full = refl

second_of_full : numbers_from 1 4095 ≡ item_of 1 Flat (idle_flat 1) ∷ numbers_from 2 4094
unfolding numbers_from
second_of_full = refl

first_of_next : numbers_from 1 4096 ≡ item_of 1 Flat (idle_flat 1) ∷ numbers_from 2 4095
unfolding numbers_from
first_of_next = refl

absent : (items : List MemoItem) (n : ℕ) → find (is_item_of n Flat) items ≡ None
    → entry_under items n Flat ≡ None
absent items n none = ap (option_map (λ (i : MemoItem). i.entry)) none

pub new_number : most_recent (with_recent (numbers_from 0 MEMO_ENTRIES) 4096 Flat (idle_flat 4096))
    ≡ numbers_from 1 MEMO_ENTRIES
new_number = least_recent_goes (numbers_from 0 4096) 4096 Flat (idle_flat 4096)
    (absent (numbers_from 0 4096) 4096 (numbers_lack 0 4096 4096 (inr (omega arith)))) (numbers_count 0 4096)
    ∙ ap (λ (l : List MemoItem). drop 1 l ++ item_of 4096 Flat (idle_flat 4096) ∷ []) first_of_full
    ∙ sym (numbers_more 1 4095)

pub first_is_gone : entry_under (numbers_from 1 MEMO_ENTRIES) 0 Flat ≡ None
first_is_gone = absent (numbers_from 1 4096) 0 (numbers_lack 1 4096 0 (inl (omega arith)))

pub second_is_there : entry_under (numbers_from 1 MEMO_ENTRIES) 1 Flat ≡ Some (idle_flat 1)
second_is_there = ap (λ (l : List MemoItem). entry_under l 1 Flat) first_of_next

-- the first number put last, with any entry
first_last : (e : Entry)
    → with_recent (numbers_from 0 4096) 0 Flat e ≡ numbers_from 1 4095 ++ item_of 0 Flat e ∷ []
first_last e = ap (λ (l : List MemoItem). with_recent l 0 Flat e) first_of_full
    ∙ ap (λ (l : List MemoItem). l ++ item_of 0 Flat e ∷ [])
    (none_found (is_item_of 0 Flat) (numbers_from 1 4095) (numbers_lack 1 4095 0 (inl (omega arith))))

first_last_count : (e : Entry) → length (numbers_from 1 4095 ++ item_of 0 Flat e ∷ []) ≡ 4096
first_last_count e = omega (
  arith,
  length-append (numbers_from 1 4095) (item_of 0 Flat e ∷ []),
  numbers_count 1 4095,
)

pub first_looked_up : most_recent (with_recent
    (with_recent (numbers_from 0 MEMO_ENTRIES) 0 Flat (idle_flat 0)) 4096 Flat (idle_flat 4096))
    ≡ numbers_from 2 4094 ++ item_of 0 Flat (idle_flat 0) ∷ item_of 4096 Flat (idle_flat 4096) ∷ []
first_looked_up =
    let zero_item = item_of 0 Flat (idle_flat 0) in
    let last = item_of 4096 Flat (idle_flat 4096) in
    ap (λ (l : List MemoItem). most_recent (with_recent l 4096 Flat (idle_flat 4096)))
    (first_last (idle_flat 0))
    ∙ least_recent_goes (numbers_from 1 4095 ++ zero_item ∷ []) 4096 Flat (idle_flat 4096)
    (absent (numbers_from 1 4095 ++ zero_item ∷ []) 4096
    (find-not_last (is_item_of 4096 Flat) (numbers_from 1 4095) zero_item refl
    ∙ numbers_lack 1 4095 4096 (inr (omega arith)))) (first_last_count (idle_flat 0))
    ∙ ap (λ (l : List MemoItem). drop 1 (l ++ zero_item ∷ []) ++ last ∷ []) second_of_full
    ∙ append_assoc (numbers_from 2 4094) (zero_item ∷ []) (last ∷ [])

pub first_again : most_recent (with_recent (numbers_from 0 MEMO_ENTRIES) 0 Flat (idle_flat 5))
    ≡ numbers_from 1 4095 ++ item_of 0 Flat (idle_flat 5) ∷ []
first_again = ap most_recent (first_last (idle_flat 5))
    ∙ ap (λ k. drop (k - MEMO_ENTRIES) (numbers_from 1 4095 ++ item_of 0 Flat (idle_flat 5) ∷ []))
    (first_last_count (idle_flat 5))
