-- What a room has for a number and a kind after one entry was put last.
use Rattle.std.proofs.Common.{◌≡◌, ℕ, ◌<◌, ◌-◌, Bool, true, false, cond, not, true≢false}
use Rattle.std.proofs.Common.{List, [], ◌∷◌, ◌++◌, length, drop, filter, IsSome, ◌⊎◌, inl, inr, slice_get}
use Rattle.std.proofs.Common.{Some, None, refl, sym, ap, subst, ◌∙◌, arith}
use Rattle.std.proofs.Common.{◌&&◌, eq-eqb}
use Rattle.std.specs.List.{find}
use Rattle.std.specs.Option.{option_map}
use Rattle.std.proofs.lemmas.Bool.{cases_Bool}
use Rattle.std.proofs.lemmas.List.{length-append, drop-append-le}
use Rattle.std.proofs.lemmas.List.Elements.{filter-append}
use Rattle.std.proofs.lemmas.Bool.{false_from_ne_true}
use Rattle.list_lemmas.proofs.Fronts.{no_items}
use Rattle.memo_core.proofs.CachedItems.{item_under}
use Rattle.memo_core.proofs.CachedPut.{one_more}
use Rattle.memo_core.proofs.Lists.{find_is_first, filter-drop_le, find-drop, none_left}
use Rattle.memo_core.proofs.MemoSteps.{nothing_goes, still_once}
use Rattle.memo_core.specs.Memo.{MemoItem, IsMemo, same_kind, is_item_of, entry_under, items_besides}
use Rattle.memo_core.specs.Memo.{with_recent, most_recent}
use Rattle.whole_profiles.specs.declared.entry.Entry.{Entry}
use Rattle.memo_core.specs.declared.limits.TheConstants.{MEMO_ENTRIES}
use Rattle.whole_profiles.specs.declared.memo_kind.MemoKind.{MemoKind}
use Rattle.whole_profiles.specs.declared.memo_kind.MemoKind.TheVariants.{Flat, Paths}

module _ {X : Type 0} (q : X → Bool) where
  -- the last of a list is found where no other one passes
  find-last : (xs : List X) (x : X) → filter q xs ≡ [] → q x ≡ true → find q (xs ++ x ∷ []) ≡ Some x
  find-last xs x none passes = find_is_first q (xs ++ x ∷ [])
      ∙ ap (λ l. slice_get l 0) (filter-append q xs (x ∷ []) ∙ ap (λ l. l ++ filter q (x ∷ [])) none
      ∙ ap (λ b. cond b (x ∷ []) []) passes)

  -- one that doesn't pass is not found
  pub find-not_last : (xs : List X) (x : X) → q x ≡ false → find q (xs ++ x ∷ []) ≡ find q xs
  find-not_last [] x fails = ap (λ b. cond b (Some x) None) fails
  find-not_last (y ∷ xs) x fails = ap (cond (q y) (Some y)) (find-not_last xs x fails)

  out_or_found : (p : X → Bool) (b : Bool) (y : X) (gs xs : List X) → p y ≡ b → (q y ≡ true → p y ≡ false)
      → find q gs ≡ find q xs → find q (cond (not b) (y ∷ gs) gs) ≡ cond (q y) (Some y) (find q xs)
  out_or_found p true y gs xs is apart e = elim (cases_Bool (q y)) [
    | inl passes ↦ absurd (true≢false (sym is ∙ apart passes))
    | inr fails ↦ e ∙ sym (ap (λ b. cond b (Some y) (find q xs)) fails)
  ]
  out_or_found p false y gs xs is apart e = ap (cond (q y) (Some y)) e

  -- it is found all the same without those of another test
  find-besides : (p : X → Bool) (xs : List X) → ((x : X) → q x ≡ true → p x ≡ false)
      → find q (filter (λ x. not (p x)) xs) ≡ find q xs
  find-besides p [] apart = refl
  find-besides p (x ∷ xs) apart = out_or_found p (p x) x (filter (λ y. not (p y)) xs) xs refl (apart x)
      (find-besides p xs apart)

same_self : (kind : MemoKind) → same_kind kind kind ≡ true
same_self Flat = refl
same_self Paths = refl

module _ (items : List MemoItem) (n : ℕ) (kind : MemoKind) (e : Entry) where
  abbrev item : MemoItem
  item = record { number = n; kind = kind; entry = e }

  abbrev rest : List MemoItem
  rest = items_besides items n kind

  passes_itself : is_item_of n kind item ≡ true
  passes_itself = ap (λ b. b && same_kind kind kind) (eq-eqb n n refl) ∙ same_self kind

  pub filled_is_found : IsMemo items → entry_under (most_recent (with_recent items n kind e)) n kind ≡ Some e
  filled_is_found valid =
      let past = length (with_recent items n kind e) - MEMO_ENTRIES in
      let long = length-append rest (item ∷ []) in
      let cut : drop past (with_recent items n kind e) ≡ drop past rest ++ item ∷ [] =
      drop-append-le past rest (item ∷ []) (omega arith) in
      let none : filter (is_item_of n kind) (drop past rest) ≡ [] =
      no_items (filter (is_item_of n kind) (drop past rest))
      (omega (
        arith,
        filter-drop_le (is_item_of n kind) past rest,
        ap length (none_left (is_item_of n kind) items),
      )) in
      ap (λ (l : List MemoItem). entry_under l n kind) cut
      ∙ ap (option_map (λ (i : MemoItem). i.entry))
      (find-last (is_item_of n kind) (drop past rest) item none passes_itself)

  module _ (m : ℕ) (other : MemoKind) (apart : is_item_of m other item ≡ false) where
    apart_items : (i : MemoItem) → is_item_of m other i ≡ true → is_item_of n kind i ≡ false
    apart_items i passes = false_from_ne_true (is_item_of n kind i) (λ both.
        true≢false (sym (subst (λ j. is_item_of m other j ≡ true) (item_under n kind i both) passes) ∙ apart))

    -- with nothing gone, others are as before
    pub others_stay : entry_under (with_recent items n kind e) m other ≡ entry_under items m other
    others_stay = ap (option_map (λ (i : MemoItem). i.entry))
        (find-not_last (is_item_of m other) rest item apart
        ∙ find-besides (is_item_of m other) (is_item_of n kind) items apart_items)

    pub others_stay_or_go : IsMemo items
        → (entry_under (most_recent (with_recent items n kind e)) m other ≡ None)
        ⊎ (entry_under (most_recent (with_recent items n kind e)) m other ≡ entry_under items m other)
    others_stay_or_go valid =
        elim (find-drop (is_item_of m other) (length (with_recent items n kind e) - MEMO_ENTRIES)
        (with_recent items n kind e) (still_once items n kind e valid m other)) [
          | inl gone ↦ inl (ap (option_map (λ (i : MemoItem). i.entry)) gone)
          | inr there ↦ inr (ap (option_map (λ (i : MemoItem). i.entry)) there ∙ others_stay)
        ]

    pub known_loses_none : IsMemo items → IsSome (entry_under items n kind)
        → entry_under (most_recent (with_recent items n kind e)) m other ≡ entry_under items m other
    known_loses_none valid there = ap (λ (l : List MemoItem). entry_under l m other)
        (nothing_goes items n kind e valid there) ∙ others_stay

  pub new_takes_room : entry_under items n kind ≡ None → length items < MEMO_ENTRIES
      → most_recent (with_recent items n kind e) ≡ items ++ item ∷ []
  new_takes_room new few =
      let none : length items - (MEMO_ENTRIES - 1) ≡ 0 = omega arith in
      sym (one_more items n kind e (MEMO_ENTRIES - 1) (omega arith) new)
      ∙ ap (λ k. drop k items ++ item ∷ []) none

  pub least_recent_goes : entry_under items n kind ≡ None → length items ≡ MEMO_ENTRIES
      → most_recent (with_recent items n kind e) ≡ drop 1 items ++ item ∷ []
  least_recent_goes new full =
      let one : length items - (MEMO_ENTRIES - 1) ≡ 1 = omega (arith, full) in
      sym (one_more items n kind e (MEMO_ENTRIES - 1) (omega arith) new)
      ∙ ap (λ k. drop k items ++ item ∷ []) one
