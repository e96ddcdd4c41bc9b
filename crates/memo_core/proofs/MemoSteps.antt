-- A room after an entry was looked up or filled in: what holds of a room still holds.
use Rattle.std.proofs.Common.{◌≡◌, ℕ, ◌≤◌, ◌-◌, ◌+◌, Bool, true, false, cond, not, true≢false}
use Rattle.std.proofs.Common.{All, is_some}
use Rattle.std.proofs.Common.{List, [], ◌∷◌, length, drop, filter, IsSome}
use Rattle.std.proofs.Common.{Option, Some, None, IfSome, unwrap_or, refl, sym, ap, subst, ◌∙◌, arith}
use Rattle.std.specs.List.{find}
use Rattle.std.specs.Option.{option_map}
use Rattle.std.proofs.lemmas.List.{length-append, length-drop}
use Rattle.std.proofs.lemmas.List.Elements.{All-append, All-filter, All-drop, filter-append}
use Rattle.list_lemmas.proofs.All.{All-one}
use Rattle.memo_core.proofs.Lists.{filter-filter_le, filter-drop_le, none_left, find_has, found_counts}
use Rattle.memo_core.proofs.CachedItems.{item_under}
use Rattle.whole_profiles.specs.Entry.{entry_kind, entry_rows}
use Rattle.memo_core.specs.Memo.{MemoItem, IsMemo, is_item_of, entry_under, items_besides}
use Rattle.memo_core.specs.Memo.{with_recent, most_recent}
use Rattle.whole_profiles.specs.declared.entry.Entry.{Entry}
use Rattle.memo_core.specs.declared.limits.TheConstants.{MEMO_ENTRIES, MEMO_ROWS}
use Rattle.whole_profiles.specs.declared.memo_kind.MemoKind.{MemoKind}

-- an item that stands under two numbers and kinds: they are the same
pub same_place : (n m : ℕ) (kind other : MemoKind) (e : Entry)
    → is_item_of m other (record { number = n; kind = kind; entry = e }) ≡ true
    → is_item_of m other ≡ is_item_of n kind
same_place n m kind other e h =
    let i = item_under m other (record { number = n; kind = kind; entry = e }) h in
    ap (λ (j : MemoItem). is_item_of j.number j.kind) (sym i)

module _ (items : List MemoItem) (n : ℕ) (kind : MemoKind) (e : Entry) (valid : IsMemo items) where
  abbrev item : MemoItem
  item = record { number = n; kind = kind; entry = e }

  one_or_none : (q : MemoItem → Bool) (b : Bool) → q item ≡ b → (b ≡ true → q ≡ is_item_of n kind)
      → length (filter q items) ≤ 1
      → length (filter q (items_besides items n kind)) + length (cond b (item ∷ []) []) ≤ 1
  one_or_none q true is same h = omega (
    arith,
    ap length (subst (λ r. filter r (items_besides items n kind) ≡ []) (sym (same refl))
        (none_left (is_item_of n kind) items)),
  )
  one_or_none q false is same h = omega (arith, h, filter-filter_le q (λ i. not (is_item_of n kind i)) items)

  pub still_once : (m : ℕ) (other : MemoKind)
      → length (filter (is_item_of m other) (with_recent items n kind e)) ≤ 1
  still_once m other =
      let q = is_item_of m other in
      let both = ap length (filter-append q (items_besides items n kind) (item ∷ [])) in
      let sum = length-append (filter q (items_besides items n kind)) (cond (q item) (item ∷ []) []) in
      omega (arith, both, sum, one_or_none q (q item) refl (same_place n m kind other e) (valid.once m other))

  All-last : (P : MemoItem → Type 0) → All P items → P item → All P (most_recent (with_recent items n kind e))
  All-last P all last = All-drop P (length (with_recent items n kind e) - MEMO_ENTRIES)
      (with_recent items n kind e)
      (All-append P (items_besides items n kind) (item ∷ []) (All-filter _ P items all) (All-one P item last))

  -- it is a room again with an entry of the kind and of few enough rows
  pub still_memo : entry_kind e ≡ kind → entry_rows e ≤ MEMO_ROWS
      → IsMemo (most_recent (with_recent items n kind e))
  still_memo of_kind few_rows =
      let all = with_recent items n kind e in
      let past = length all - MEMO_ENTRIES in
      record {
        few = omega (arith, length-drop past all);
        once = λ m other. omega (arith, filter-drop_le (is_item_of m other) past all, still_once m other);
        kinds = All-last (λ i. entry_kind i.entry ≡ i.kind) valid.kinds of_kind;
        rows = All-last (λ i. entry_rows i.entry ≤ MEMO_ROWS) valid.rows few_rows;
      }

-- an entry that is there is of its kind and of few enough rows, and there is room for it once more
pub record IsKept (items : List MemoItem) (n : ℕ) (kind : MemoKind) (e : Entry) : Type 0 where
  pub of_kind : entry_kind e ≡ kind
  pub few_rows : entry_rows e ≤ MEMO_ROWS

kept_item : (items : List MemoItem) (n : ℕ) (kind : MemoKind) (e : Entry) (o : Option MemoItem)
    → IfSome o (λ i. ((entry_kind i.entry ≡ i.kind) × (entry_rows i.entry ≤ MEMO_ROWS))
    × (is_item_of n kind i ≡ true)) → option_map (λ i. i.entry) o ≡ Some e → IsKept items n kind e
kept_item items n kind e None h is = absurd (true≢false (sym (ap is_some is)))
kept_item items n kind e (Some i) h is =
    let same : i.entry ≡ e = ap (λ o. unwrap_or o e) is in
    let under = item_under n kind i h.1 in
    record {
      of_kind = subst (λ d. entry_kind d ≡ kind) same (h.0.0 ∙ ap (λ (j : MemoItem). j.kind) under);
      few_rows = subst (λ d. entry_rows d ≤ MEMO_ROWS) same h.0.1;
    }

pub is_kept : (items : List MemoItem) (n : ℕ) (kind : MemoKind) (e : Entry) → IsMemo items
    → entry_under items n kind ≡ Some e → IsKept items n kind e
is_kept items n kind e valid there = kept_item items n kind e (find (is_item_of n kind) items)
    (find_has (is_item_of n kind) _ items (λ k d h. (valid.kinds k d h, valid.rows k d h))) there

found_there : (o : Option MemoItem) → is_some (option_map (λ i. i.entry) o) ≡ is_some o
found_there None = refl
found_there (Some i) = refl

-- where the number and the kind are there, nothing is too much
pub nothing_goes : (items : List MemoItem) (n : ℕ) (kind : MemoKind) (e : Entry) → IsMemo items
    → IsSome (entry_under items n kind)
    → most_recent (with_recent items n kind e) ≡ with_recent items n kind e
nothing_goes items n kind e valid there =
    let fewer = found_counts (is_item_of n kind) items
    (sym (found_there (find (is_item_of n kind) items)) ∙ there)
    in
    let long = length-append (items_besides items n kind)
    (record { number = n; kind = kind; entry = e } ∷ []) in
    let none : length (with_recent items n kind e) - MEMO_ENTRIES ≡ 0 =
    omega (arith, fewer, long, valid.few) in
    ap (λ k. drop k (with_recent items n kind e)) none
