-- The answers of a room from those of its cache.
use Rattle.std.proofs.Common.{◌≡◌, ◌≤◌, true≢false, is_some, IsSome, inl, inr}
use Rattle.std.proofs.Common.{Option, Some, None, Result, Ok, Err, OnOk, OnErr, IsOk}
use Rattle.std.proofs.Common.{refl, sym, ap, subst, ◌∙◌}
use Rattle.std.specs.Map.{lookup}
use Rattle.lru.specs.LruCache.{LruCache, lru_cache, put_entries, promoted}
use Rattle.trace_base.specs.declared.memory.Memory.{Memory}
use Rattle.memo_core.proofs.CachedItems.{key_test, key_tells, entry_cached, promoted_items}
use Rattle.memo_core.proofs.CachedPut.{put_items}
use Rattle.memo_core.proofs.MemoSteps.{is_kept, nothing_goes, still_memo}
use Rattle.memo_core.specs.Cached.{memo_items}
use Rattle.whole_profiles.specs.Entry.{entry_kind, entry_rows}
use Rattle.memo_core.specs.Memo.{IsMemo, entry_under, with_recent, most_recent}
use Rattle.memo_core.specs.Using.{LooksUp, FillsIn}
use Rattle.whole_profiles.specs.declared.entry.Entry.{Entry}
use Rattle.memo_core.specs.declared.limits.TheConstants.{MEMO_ENTRIES, MEMO_ROWS}
use Rattle.memo_core.specs.declared.memo_key.MemoKey.{MemoKey}

-- a cache whose items are a room
pub record IsRoom (c : LruCache MemoKey Entry) : Type 0 where
  pub valid : IsMemo (memo_items c.entries)
  pub cap : c.cap ≡ MEMO_ENTRIES

absent : (o : Option Entry) → (IsSome o → ⊥) → o ≡ None
absent None h = refl
absent (Some e) h = absurd (h refl)

module _ (c : LruCache MemoKey Entry) (k : MemoKey) (room : IsRoom c) where
  -- what the cache finds under the key
  pub there : entry_under (memo_items c.entries) k.number k.kind ≡ lookup (key_test k) c.entries
  there = entry_cached k.number k.kind (key_test k) (key_tells k) c.entries room.valid

  -- what was put
  pub record IsAfterFill (e : Entry) (new : LruCache MemoKey Entry) : Type 0 where
    pub answer : FillsIn (memo_items c.entries) k.number k.kind e (memo_items new.entries)
    pub room_again : IsRoom new

  pub after_put : {E : Type 0} (v e : Entry) (r : Result (Option Entry) E) (new : LruCache MemoKey Entry)
      → v ≡ e → entry_kind e ≡ k.kind → entry_rows e ≤ MEMO_ROWS
      → OnOk r (new ≡ lru_cache (put_entries key_test c k v) c.cap) → OnErr r (new ≡ c)
      → (IsSome (lookup (key_test k) c.entries) → IsOk r) → IsAfterFill e new
  after_put v e (Ok old) new same of_kind few_rows ok err succeeds =
      let items : memo_items new.entries
      ≡ most_recent (with_recent (memo_items c.entries) k.number k.kind e) =
      ap (λ (d : LruCache MemoKey Entry). memo_items d.entries) ok
      ∙ put_items key_test c k v (key_tells k) room.valid room.cap
      ∙ ap (λ d. most_recent (with_recent (memo_items c.entries) k.number k.kind d)) same in
      record {
        answer = inl (few_rows, items);
        room_again = record {
          valid = subst IsMemo (sym items)
              (still_memo (memo_items c.entries) k.number k.kind e room.valid of_kind few_rows);
          cap = ap (λ (d : LruCache MemoKey Entry). d.cap) ok ∙ room.cap;
        };
      }
  after_put v e (Err y) new same of_kind few_rows ok err succeeds =
      let new_key = absent (lookup (key_test k) c.entries) (λ h. true≢false (sym (succeeds h))) in
      record {
        answer = inr (
          inr (there ∙ new_key),
          ap (λ (d : LruCache MemoKey Entry). memo_items d.entries) err,
        );
        room_again = subst IsRoom (sym err) room;
      }

  pub record IsAfterLook (e : Entry) (new : LruCache MemoKey Entry) : Type 0 where
    pub answer : LooksUp (memo_items c.entries) k.number k.kind (Ok (Some e)) (memo_items new.entries)
    pub room_again : IsRoom new

  -- an entry that was found and made the most recent one
  pub after_promote : (v e : Entry) (new : LruCache MemoKey Entry)
      → Some v ≡ lookup (key_test k) c.entries → e ≡ v
      → new ≡ lru_cache (promoted (key_test k) c.entries) c.cap → IsAfterLook e new
  after_promote v e new found same is =
      let found_there : entry_under (memo_items c.entries) k.number k.kind ≡ Some e =
      there ∙ sym found ∙ sym (ap Some same) in
      let items : memo_items new.entries ≡ with_recent (memo_items c.entries) k.number k.kind e =
      ap (λ (d : LruCache MemoKey Entry). memo_items d.entries) is
      ∙ promoted_items k.number k.kind (key_test k) (key_tells k) c.entries e room.valid
      (sym found ∙ sym (ap Some same))
      in
      let kept = is_kept (memo_items c.entries) k.number k.kind e room.valid found_there in
      record {
        answer = (found_there, items);
        room_again = record {
          valid = subst IsMemo
              (nothing_goes (memo_items c.entries) k.number k.kind e room.valid (ap is_some found_there)
              ∙ sym items)
              (still_memo (memo_items c.entries) k.number k.kind e room.valid kept.of_kind kept.few_rows);
          cap = ap (λ (d : LruCache MemoKey Entry). d.cap) is ∙ room.cap;
        };
      }

-- where no memory was found for the copy of an entry that is there
pub no_copy : (c : LruCache MemoKey Entry) (k : MemoKey) (room : IsRoom c) (v : Entry) (y : Memory)
    → Some v ≡ lookup (key_test k) c.entries
    → LooksUp (memo_items c.entries) k.number k.kind (Err y) (memo_items c.entries)
no_copy c k room v y found = (ap is_some (there c k room ∙ sym found), refl)
