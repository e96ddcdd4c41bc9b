-- How kept entries change with the room of their number.
use Rattle.std.proofs.Common.{◌≡◌, ℕ, ◌%◌, ◌<◌, List, [], get_or, length, slice_set, arith}
use Rattle.std.proofs.Common.{false, ◌==◌, ◌⊎◌, inl, inr, refl, sym, ap, subst, ◌∙◌}
use Rattle.std.proofs.Common.{Option, Some, None, Result, Ok, Err}
use Rattle.std.proofs.lemmas.Bool.{and_parts, eqb-true, false_from_ne_true}
use Rattle.std.proofs.lemmas.Bool.Decides.{eqb_tells}
use Rattle.std.proofs.lemmas.List.{get_or-replicate, get_or-set_same, get_or-set_other}
use Rattle.std.proofs.lemmas.Option.{get_or_from_slice_get, slice_get-get_or}
use Rattle.trace_base.specs.declared.memory.Memory.{Memory}
use Rattle.memo_core.specs.Memo.{MemoItem, IsMemo, same_kind, is_item_of, entry_under}
use Rattle.memo_core.specs.Memo.{with_recent, most_recent}
use Rattle.memo_core.specs.Using.{LooksUp, FillsIn}
use Rattle.memo_core.specs.declared.limits.TheConstants.{MEMO_ROOMS}
use Rattle.memo_core.proofs.CachedItems.{same_kind-true}
use Rattle.memo_core.proofs.MemoLaws.{filled_is_found, others_stay_or_go}
use Rattle.memo_core.proofs.RunLaws.{look_keeps}
use Rattle.memo_rooms.specs.Rooms.{AreRooms, Kept, IsKeptAfter, LookTells, kept_under, no_entries, room_of}
use Rattle.whole_profiles.specs.declared.entry.Entry.{Entry}
use Rattle.whole_profiles.specs.declared.memo_kind.MemoKind.{MemoKind}

-- what is the same for each number and kind is the same
same_kept : (new old : Kept) → ((m : ℕ) (other : MemoKind) → new m other ≡ old m other) → new ≡ old
same_kept new old same = λ t m other. same m other t

-- what is told is what the room keeps
tells : (items new : List MemoItem) (n : ℕ) (kind : MemoKind) (r : Result (Option Entry) Memory)
    → LooksUp items n kind r new → LookTells (entry_under items n kind) r
tells items new n kind (Ok (Some e)) h = sym h.0
tells items new n kind (Ok None) h = sym h.0
tells items new n kind (Err y) h = h.0

-- an item of another number or kind isn't found under these
apart_test : (m n : ℕ) (other kind : MemoKind) (e : Entry) → (m ≡ n → other ≡ kind → ⊥)
    → is_item_of m other (record { number = n; kind = kind; entry = e }) ≡ false
apart_test m n other kind e apart =
    false_from_ne_true (is_item_of m other (record { number = n; kind = kind; entry = e })) (λ both.
    let parts = and_parts (m == n) (same_kind other kind) both in
    apart (eqb-true m n parts.0) (same_kind-true other kind parts.1))

-- empty rooms keep nothing
pub nothing_kept : (n : ℕ) (kind : MemoKind) → kept_under no_entries n kind ≡ None
unfolding kept_under
nothing_kept n kind = ap (λ (l : List MemoItem). entry_under l n kind)
    (get_or-replicate MEMO_ROOMS (n % MEMO_ROOMS) [] [] (omega arith))

-- the room of `n`, at `i`, has the items `here`, and has others afterwards
module _ (old : List (List MemoItem)) (n i : ℕ) (here : List MemoItem) (rooms : AreRooms old)
    (at : i ≡ n % MEMO_ROOMS) (found : here ≡ get_or old i here) where
  abbrev after : List MemoItem → List (List MemoItem)
  after r = slice_set old i r

  within : i < length old
  within = omega (arith, rooms.all, at)

  room_is : here ≡ room_of old n
  room_is = found
      ∙ sym (get_or_from_slice_get old i (get_or old i here) [] (slice_get-get_or old i here within))
      ∙ ap (λ j. get_or old j []) at

  valid : IsMemo here
  valid = subst IsMemo (sym (room_is ∙ ap (λ j. get_or old j []) (sym at))) (rooms.each i [] within)

  -- a number of the same room is there from now on, one of another room stays
  kept_here : (r : List MemoItem) (m : ℕ) (other : MemoKind) → m % MEMO_ROOMS ≡ n % MEMO_ROOMS
      → kept_under (after r) m other ≡ entry_under r m other
  unfolding kept_under
  kept_here r m other same = ap (λ j. entry_under (get_or (after r) j []) m other) (same ∙ sym at)
      ∙ ap (λ (l : List MemoItem). entry_under l m other) (get_or-set_same old i r [] within)

  kept_there : (r : List MemoItem) (m : ℕ) (other : MemoKind) → (m % MEMO_ROOMS ≡ n % MEMO_ROOMS → ⊥)
      → kept_under (after r) m other ≡ kept_under old m other
  unfolding kept_under
  kept_there r m other apart = ap (λ (l : List MemoItem). entry_under l m other)
      (get_or-set_other old i (m % MEMO_ROOMS) r [] (λ same. apart (same ∙ at)))

  kept_before : (m : ℕ) (other : MemoKind) → m % MEMO_ROOMS ≡ n % MEMO_ROOMS
      → kept_under old m other ≡ entry_under here m other
  unfolding kept_under
  kept_before m other same = ap (λ j. entry_under (get_or old j []) m other) same
      ∙ ap (λ (l : List MemoItem). entry_under l m other) (sym room_is)

  pub look_tells : (kind : MemoKind) (r : List MemoItem) (told : Result (Option Entry) Memory)
      → LooksUp here n kind told r → LookTells (kept_under old n kind) told
  look_tells kind r told h = subst (λ o. LookTells o told) (sym (kept_before n kind refl))
      (tells here r n kind told h)

  -- what is kept stays when something is looked up
  pub look_stays : (kind : MemoKind) (r : List MemoItem) (told : Result (Option Entry) Memory)
      → LooksUp here n kind told r → kept_under (after r) ≡ kept_under old
  look_stays kind r told h = same_kept (kept_under (after r)) (kept_under old) (λ m other.
      elim (eqb_tells (m % MEMO_ROOMS) (n % MEMO_ROOMS)) [
        | inl (is, same) ↦ kept_here r m other same
            ∙ look_keeps m other here r n kind told valid h ∙ sym (kept_before m other same)
        | inr (is, apart) ↦ kept_there r m other apart
      ])

  module _ (kind : MemoKind) (e : Entry) (r : List MemoItem) where
    others : r ≡ most_recent (with_recent here n kind e)
        → (m : ℕ) (other : MemoKind) → (m ≡ n → other ≡ kind → ⊥)
        → (kept_under (after r) m other ≡ kept_under old m other) ⊎ (kept_under (after r) m other ≡ None)
    others is m other apart = elim (eqb_tells (m % MEMO_ROOMS) (n % MEMO_ROOMS)) [
      | inl (same_test, same) ↦
          let now = kept_here r m other same ∙ ap (λ (l : List MemoItem). entry_under l m other) is in
          elim (others_stay_or_go here n kind e m other (apart_test m n other kind e apart) valid) [
            | inl gone ↦ inr (now ∙ gone)
            | inr stays ↦ inl (now ∙ stays ∙ sym (kept_before m other same))
          ]
      | inr (other_test, away) ↦ inl (kept_there r m other away)
    ]

    pub fill_keeps : FillsIn here n kind e r → IsKeptAfter (kept_under old) n kind e (kept_under (after r))
    fill_keeps (inl (few, is)) = inl (record {
      few_rows = few;
      there = kept_here r n kind refl ∙ ap (λ (l : List MemoItem). entry_under l n kind) is
          ∙ filled_is_found here n kind e valid;
      others = others is;
    })
    fill_keeps (inr (why, is)) = inr (
      elim why [
        | inl large ↦ inl large
        | inr none ↦ inr (kept_before n kind refl ∙ none)
      ],
      same_kept (kept_under (after r)) (kept_under old) (λ m other.
          elim (eqb_tells (m % MEMO_ROOMS) (n % MEMO_ROOMS)) [
            | inl (same_test, same) ↦ kept_here r m other same
                ∙ ap (λ (l : List MemoItem). entry_under l m other) is ∙ sym (kept_before m other same)
            | inr (other_test, away) ↦ kept_there r m other away
          ]),
    )
