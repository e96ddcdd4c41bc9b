-- What the cache's own words do to the items that it shows.
use Rattle.std.proofs.Common.{◌≡◌, ℕ, ◌≤◌, Bool, true, false, cond, not, true≢false, map}
use Rattle.std.proofs.Common.{List, [], ◌∷◌, ◌++◌, length, reverse, filter, is_some}
use Rattle.std.proofs.Common.{Option, Some, None, refl, sym, ap, ◌∙◌, arith}
use Rattle.std.proofs.Common.{◌==◌, ◌&&◌}
use denote.Enum.Bare.{sameb}
use Rattle.std.specs.List.{find}
use Rattle.std.specs.Map.{lookup, lookup_entry, remove_entry}
use Rattle.std.specs.Option.{option_map, option_map_or}
use Rattle.std.proofs.lemmas.Bool.{and_parts, eqb-true}
use Rattle.std.proofs.lemmas.List.{length-reverse}
use Rattle.lru.specs.LruCache.{promoted}
use Rattle.lru.proofs.CallerLemmas.{Contains-lookup_entry}
use Rattle.memo_core.proofs.Lists.{filter-reverse, find-reverse, none_passes, reverse-one_more}
use Rattle.memo_core.specs.Cached.{memo_item, memo_items}
use Rattle.memo_core.specs.Memo.{MemoItem, IsMemo, same_kind, is_item_of, entry_under, items_besides}
use Rattle.memo_core.specs.Memo.{with_recent}
use Rattle.whole_profiles.specs.contracts.memo_kind.MemoKind.{the_type}
use Rattle.whole_profiles.specs.declared.entry.Entry.{Entry}
use Rattle.memo_core.specs.declared.memo_key.MemoKey.{MemoKey}
use Rattle.whole_profiles.specs.declared.memo_kind.MemoKind.{MemoKind}
use Rattle.whole_profiles.specs.declared.memo_kind.MemoKind.TheVariants.{Flat, Paths}

pub same_kind-true : (a b : MemoKind) → same_kind a b ≡ true → a ≡ b
same_kind-true Flat Flat h = refl
same_kind-true Paths Paths h = refl
same_kind-true Flat Paths h = absurd (true≢false (sym h))
same_kind-true Paths Flat h = absurd (true≢false (sym h))

-- the code's test of kinds is this one
pub same_tag : (a b : MemoKind) → sameb the_type a b ≡ same_kind a b
same_tag Flat Flat = refl
same_tag Paths Paths = refl
same_tag Flat Paths = refl
same_tag Paths Flat = refl

-- the code's test of keys
abbrev pub key_test : MemoKey → MemoKey → Bool
key_test k j = k.number == j.number && sameb the_type k.kind j.kind

-- it passes the keys of items under this number and kind
pub key_tells : (k : MemoKey) (e : MemoKey × Entry)
    → key_test k e.0 ≡ is_item_of k.number k.kind (memo_item e)
key_tells k e = ap (λ b. k.number == e.0.number && b) (same_tag k.kind e.0.kind)

-- an item under a number and a kind has them
pub item_under : (n : ℕ) (kind : MemoKind) (i : MemoItem) → is_item_of n kind i ≡ true
    → i ≡ record { number = n; kind = kind; entry = i.entry }
item_under n kind i h =
    let parts = and_parts _ (same_kind kind i.kind) h in
    let number = sym (eqb-true n i.number parts.0) in
    let same = sym (same_kind-true kind i.kind parts.1) in
    λ t. record { number = number t; kind = same t; entry = i.entry }

-- `test` passes the keys of this number and kind
module _ (n : ℕ) (kind : MemoKind) (test : MemoKey → Bool)
    (tells : (e : MemoKey × Entry) → test e.0 ≡ is_item_of n kind (memo_item e)) where
  abbrev passes : MemoItem → Bool
  passes = is_item_of n kind

  first_or_later : (b c : Bool) → b ≡ c → (e : MemoKey × Entry) (o : Option MemoItem) (r : Option Entry)
      → option_map (λ i. i.entry) o ≡ r
      → option_map (λ i. i.entry) (cond c (Some (memo_item e)) o) ≡ cond b (Some e.1) r
  first_or_later true true same e o r h = refl
  first_or_later false false same e o r h = h
  first_or_later true false same e o r h = absurd (true≢false same)
  first_or_later false true same e o r h = absurd (true≢false (sym same))

  looked_up : (es : List (MemoKey × Entry))
      → option_map (λ i. i.entry) (find passes (map memo_item es)) ≡ lookup test es
  looked_up [] = refl
  looked_up (e ∷ es) = first_or_later (test e.0) (passes (memo_item e)) (tells e) e
      (find passes (map memo_item es)) (lookup test es) (looked_up es)

  once : (es : List (MemoKey × Entry)) → IsMemo (memo_items es)
      → length (filter passes (map memo_item es)) ≤ 1
  once es valid = omega (
    arith,
    valid.once n kind,
    ap length (filter-reverse passes (map memo_item es)),
    length-reverse (filter passes (map memo_item es)),
  )

  -- the entry of a number and kind is the one that the cache finds
  pub entry_cached : (es : List (MemoKey × Entry)) → IsMemo (memo_items es)
      → entry_under (memo_items es) n kind ≡ lookup test es
  entry_cached es valid =
      ap (option_map (λ (i : MemoItem). i.entry)) (find-reverse passes (map memo_item es) (once es valid))
      ∙ looked_up es

  out_or_not : (b c : Bool) → b ≡ c → (e : MemoKey × Entry) (es : List (MemoKey × Entry))
      → (length (filter passes (map memo_item es)) ≤ 1
      → map memo_item (remove_entry test es) ≡ filter (λ i. not (passes i)) (map memo_item es))
      → length (cond c (memo_item e ∷ filter passes (map memo_item es))
      (filter passes (map memo_item es))) ≤ 1
      → map memo_item (cond b es (e ∷ remove_entry test es))
      ≡ cond (not c) (memo_item e ∷ filter (λ i. not (passes i)) (map memo_item es))
      (filter (λ i. not (passes i)) (map memo_item es))
  out_or_not true true same e es on h = sym (none_passes passes (map memo_item es) (omega arith))
  out_or_not false false same e es on h = ap (λ l. memo_item e ∷ l) (on h)
  out_or_not true false same e es on h = absurd (true≢false same)
  out_or_not false true same e es on h = absurd (true≢false (sym same))

  removed : (es : List (MemoKey × Entry)) → length (filter passes (map memo_item es)) ≤ 1
      → map memo_item (remove_entry test es) ≡ filter (λ i. not (passes i)) (map memo_item es)
  removed [] h = refl
  removed (e ∷ es) h = out_or_not (test e.0) (passes (memo_item e)) (tells e) e es (removed es) h

  -- a key that passes, put in front of the others with an entry
  pub put_first : (es : List (MemoKey × Entry)) (k : MemoKey) (v : Entry) → IsMemo (memo_items es)
      → test k ≡ true → memo_items ((k, v) ∷ remove_entry test es) ≡ with_recent (memo_items es) n kind v
  put_first es k v valid h =
      let besides : reverse (map memo_item (remove_entry test es)) ≡ items_besides (memo_items es) n kind =
      ap reverse (removed es (once es valid))
      ∙ sym (filter-reverse (λ i. not (passes i)) (map memo_item es)) in
      let item = item_under n kind (memo_item (k, v)) (sym (tells (k, v)) ∙ h) in
      reverse-one_more (memo_item (k, v)) (map memo_item (remove_entry test es))
      ∙ ap (λ l. l ++ memo_item (k, v) ∷ []) besides
      ∙ ap (λ i. items_besides (memo_items es) n kind ++ i ∷ []) item

  value_or_later : (b : Bool) (e : MemoKey × Entry) (o : Option (MemoKey × Entry)) (r : Option Entry)
      → r ≡ option_map (λ f. f.1) o
      → cond b (Some e.1) r ≡ option_map (λ f. f.1) (cond b (Some e) o)
  value_or_later true e o r h = refl
  value_or_later false e o r h = h

  pub value_of_entry : (es : List (MemoKey × Entry))
      → lookup test es ≡ option_map (λ f. f.1) (lookup_entry test es)
  value_of_entry [] = refl
  value_of_entry (e ∷ es) = value_or_later (test e.0) e (lookup_entry test es) (lookup test es)
      (value_of_entry es)

  abbrev unwrapped : Entry → Option Entry → Entry
  unwrapped v None = v
  unwrapped v (Some w) = w

  promoted_first : (es : List (MemoKey × Entry)) (v : Entry) (o : Option (MemoKey × Entry))
      → lookup_entry test es ≡ o → option_map (λ f. f.1) o ≡ Some v → IsMemo (memo_items es)
      → memo_items (option_map_or (λ f. f ∷ remove_entry test es) o es)
      ≡ with_recent (memo_items es) n kind v
  promoted_first es v None found is valid = absurd (true≢false (sym (ap is_some is)))
  promoted_first es v (Some f) found is valid =
      put_first es f.0 f.1 valid (Contains-lookup_entry test es f found).1
      ∙ ap (λ o. with_recent (memo_items es) n kind (unwrapped v o)) is

  -- an entry that is looked up becomes the most recently used one
  pub promoted_items : (es : List (MemoKey × Entry)) (v : Entry) → IsMemo (memo_items es)
      → lookup test es ≡ Some v → memo_items (promoted test es) ≡ with_recent (memo_items es) n kind v
  promoted_items es v valid found = promoted_first es v (lookup_entry test es) refl
      (sym (value_of_entry es) ∙ found) valid
