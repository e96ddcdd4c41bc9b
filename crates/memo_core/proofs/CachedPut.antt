-- A pair put into the cache: an entry filled in, and the least recently used one gone where they are too
-- many.
use Rattle.std.proofs.Common.{◌≡◌, ℕ, ◌-◌, ◌+◌, Bool, true≢false, map, is_some}
use Rattle.std.proofs.Common.{List, [], ◌∷◌, ◌++◌, length, take, drop, reverse}
use Rattle.std.proofs.Common.{Option, Some, None, refl, sym, ap, ◌∙◌, arith}
use Rattle.std.specs.List.{find}
use Rattle.std.specs.Map.{lookup_entry, remove_entry}
use Rattle.std.specs.Option.{option_map, option_map_or}
use Rattle.std.proofs.lemmas.List.{length-append, length-reverse, drop-append-le}
use Rattle.lru.specs.LruCache.{LruCache, put_entries}
use Rattle.lru.proofs.CallerLemmas.{Contains-lookup_entry}
use Rattle.std.proofs.lemmas.List.{take-map}
use Rattle.memo_core.proofs.Lists.{none_found, reverse-one_more, reverse-take}
use Rattle.memo_core.proofs.CachedItems.{entry_cached, value_of_entry, put_first}
use Rattle.memo_core.proofs.MemoSteps.{nothing_goes}
use Rattle.memo_core.specs.Cached.{memo_item, memo_items}
use Rattle.memo_core.specs.Memo.{MemoItem, IsMemo, is_item_of, entry_under}
use Rattle.memo_core.specs.Memo.{with_recent, most_recent}
use Rattle.whole_profiles.specs.declared.entry.Entry.{Entry}
use Rattle.memo_core.specs.declared.limits.TheConstants.{MEMO_ENTRIES}
use Rattle.memo_core.specs.declared.memo_key.MemoKey.{MemoKey}
use Rattle.whole_profiles.specs.declared.memo_kind.MemoKind.{MemoKind}

no_item : (o : Option MemoItem) → option_map (λ i. i.entry) o ≡ None → o ≡ None
no_item None h = refl
no_item (Some i) h = absurd (true≢false (ap is_some h))

-- a new item behind the others: at most as many as a room keeps
pub one_more : (items : List MemoItem) (n : ℕ) (kind : MemoKind) (e : Entry) (keep : ℕ)
    → keep + 1 ≡ MEMO_ENTRIES
    → entry_under items n kind ≡ None
    → drop (length items - keep) items ++ record { number = n; kind = kind; entry = e } ∷ []
    ≡ most_recent (with_recent items n kind e)
one_more items n kind e keep all new =
    let item : MemoItem = record { number = n; kind = kind; entry = e } in
    let long = length-append items (item ∷ []) in
    let past : length items - keep ≡ length (items ++ item ∷ []) - MEMO_ENTRIES = omega (arith, long, all) in
    sym (drop-append-le (length items - keep) items (item ∷ []) (omega arith))
    ∙ ap (λ k. drop k (items ++ item ∷ [])) past
    ∙ ap (λ (l : List MemoItem). most_recent (l ++ item ∷ []))
    (sym (none_found (is_item_of n kind) items (no_item (find (is_item_of n kind) items) new)))

module _ (eq : MemoKey → MemoKey → Bool) (c : LruCache MemoKey Entry) (k : MemoKey) (v : Entry)
    (tells : (e : MemoKey × Entry) → eq k e.0 ≡ is_item_of k.number k.kind (memo_item e))
    (valid : IsMemo (memo_items c.entries)) (cap : c.cap ≡ MEMO_ENTRIES) where
  there : entry_under (memo_items c.entries) k.number k.kind
      ≡ option_map (λ f. f.1) (lookup_entry (eq k) c.entries)
  there = entry_cached k.number k.kind (eq k) tells c.entries valid
      ∙ value_of_entry k.number k.kind (eq k) tells c.entries

  cases : (o : Option (MemoKey × Entry)) → lookup_entry (eq k) c.entries ≡ o
      → memo_items (option_map_or (λ e. (e.0, v) ∷ remove_entry (eq k) c.entries) o
      ((k, v) ∷ take (c.cap - 1) c.entries))
      ≡ most_recent (with_recent (memo_items c.entries) k.number k.kind v)
  cases None is =
      reverse-one_more (memo_item (k, v)) (map memo_item (take (c.cap - 1) c.entries))
      ∙ ap (λ l. l ++ memo_item (k, v) ∷ []) (ap reverse ((sym (take-map memo_item (c.cap - 1) c.entries)))
      ∙ reverse-take (c.cap - 1) (map memo_item c.entries)
      ∙ ap (λ (j : ℕ). drop (j - (c.cap - 1)) (memo_items c.entries))
      (sym (length-reverse (map memo_item c.entries))))
      ∙ one_more (memo_items c.entries) k.number k.kind v (c.cap - 1) (omega (arith, cap))
      (there ∙ ap (option_map (λ (f : MemoKey × Entry). f.1)) is)
  cases (Some f) is =
      put_first k.number k.kind (eq k) tells c.entries f.0 v valid
      (Contains-lookup_entry (eq k) c.entries f is).1
      ∙ sym (nothing_goes (memo_items c.entries) k.number k.kind v valid
      (ap is_some (there ∙ ap (option_map (λ (f : MemoKey × Entry). f.1)) is)))

  pub put_items : memo_items (put_entries eq c k v)
      ≡ most_recent (with_recent (memo_items c.entries) k.number k.kind v)
  put_items = cases (lookup_entry (eq k) c.entries) refl
