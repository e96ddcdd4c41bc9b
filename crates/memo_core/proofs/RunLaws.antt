-- What a room has for a number and a kind after looks and fills.
use Rattle.std.proofs.Common.{◌≡◌, ℕ, ◌≤◌, Bool, true, false, cond, true≢false, nat_le, is_some, ◌&&◌}
use Rattle.std.proofs.Common.{List, [], ◌∷◌, ◌⊎◌, inl, inr, Option, Some, None, Result, Ok, Err}
use Rattle.std.proofs.Common.{refl, sym, ap, subst, ◌∙◌, arith}
use Rattle.std.specs.List.{find}
use Rattle.std.specs.Option.{option_map, option_or}
use Rattle.std.proofs.lemmas.Bool.{cases_Bool, le-leb, leb-true}
use Rattle.std.proofs.lemmas.List.Elements.{All-nil}
use Rattle.memo_core.proofs.MemoLaws.{filled_is_found, others_stay, others_stay_or_go}
use Rattle.memo_core.proofs.MemoSteps.{is_kept, nothing_goes, same_place, still_memo}
use Rattle.trace_base.specs.declared.memory.Memory.{Memory}
use Rattle.whole_profiles.specs.Entry.{entry_kind, entry_rows}
use Rattle.memo_core.specs.Memo.{MemoItem, IsMemo, is_item_of, entry_under, with_recent}
use Rattle.memo_core.specs.Runs.{MemoUse, Looked, Filled, MemoStep, MemoRun, entry_filled, last_filled}
use Rattle.memo_core.specs.Using.{LooksUp, FillsIn}
use Rattle.whole_profiles.specs.declared.entry.Entry.{Entry}
use Rattle.memo_core.specs.declared.limits.TheConstants.{MEMO_ROWS}
use Rattle.whole_profiles.specs.declared.memo_kind.MemoKind.{MemoKind}

empty_memo : IsMemo []
empty_memo = record {
  few = omega arith;
  once = λ n kind. omega arith;
  kinds = All-nil (λ (i : MemoItem). entry_kind i.entry ≡ i.kind);
  rows = All-nil (λ (i : MemoItem). entry_rows i.entry ≤ MEMO_ROWS);
}

-- a step leaves a room
step_keeps : (old new : List MemoItem) (u : MemoUse) → IsMemo old → MemoStep old u new → IsMemo new
step_keeps old new (Looked m other (Ok (Some e))) valid (found, is) =
    let kept = is_kept old m other e valid found in
    subst IsMemo (nothing_goes old m other e valid (ap is_some found) ∙ sym is)
    (still_memo old m other e valid kept.of_kind kept.few_rows)
step_keeps old new (Looked m other (Ok None)) valid h = subst IsMemo (sym h.1) valid
step_keeps old new (Looked m other (Err y)) valid h = subst IsMemo (sym h.1) valid
step_keeps old new (Filled m other e) valid (of_kind, inl h) =
    subst IsMemo (sym h.1) (still_memo old m other e valid of_kind h.0)
step_keeps old new (Filled m other e) valid (of_kind, inr h) = subst IsMemo (sym h.1) valid

module _ (n : ℕ) (kind : MemoKind) where
  abbrev has : List MemoItem → Option Entry
  has items = entry_under items n kind

  -- the same test finds the same
  same_test : (items : List MemoItem) (m : ℕ) (other : MemoKind) (e : Entry)
      → is_item_of n kind (record { number = m; kind = other; entry = e }) ≡ true
      → has items ≡ entry_under items m other
  same_test items m other e here = ap (λ q. option_map (λ (i : MemoItem). i.entry) (find q items))
      (same_place m n other kind e here)

  looked_stays : (old : List MemoItem) (m : ℕ) (other : MemoKind) (e : Entry) → IsMemo old
      → entry_under old m other ≡ Some e → has (with_recent old m other e) ≡ has old
  looked_stays old m other e valid found =
      elim (cases_Bool (is_item_of n kind (record { number = m; kind = other; entry = e }))) [
        | inl here ↦ same_test (with_recent old m other e) m other e here
            ∙ ap (λ (l : List MemoItem). entry_under l m other)
            (sym (nothing_goes old m other e valid (ap is_some found)))
            ∙ filled_is_found old m other e valid ∙ sym found ∙ sym (same_test old m other e here)
        | inr apart ↦ others_stay old m other e n kind apart
      ]

  -- what is kept stays when something is looked up
  pub look_keeps : (old new : List MemoItem) (m : ℕ) (other : MemoKind) (answer : Result (Option Entry) Memory)
      → IsMemo old → LooksUp old m other answer new → has new ≡ has old
  look_keeps old new m other (Ok (Some e)) valid (found, is) =
      ap has is ∙ looked_stays old m other e valid found
  look_keeps old new m other (Ok None) valid h = ap has h.1
  look_keeps old new m other (Err y) valid h = ap has h.1

  abbrev StepHas : List MemoItem → Option Entry → List MemoItem → Type 0
  StepHas old filled new = (has new ≡ None) ⊎ (has new ≡ option_or filled (has old))

  filled_has : (old new : List MemoItem) (m : ℕ) (other : MemoKind) (e : Entry) (b r : Bool) → IsMemo old
      → is_item_of n kind (record { number = m; kind = other; entry = e }) ≡ b
      → nat_le (entry_rows e) MEMO_ROWS ≡ r → FillsIn old m other e new
      → StepHas old (cond (b && r) (Some e) None) new
  filled_has old new m other e true true valid here few (inl h) =
      inr (same_test new m other e here ∙ ap (λ (l : List MemoItem). entry_under l m other) h.1
      ∙ filled_is_found old m other e valid)
  filled_has old new m other e true false valid here large (inl h) =
      absurd (true≢false (sym (le-leb (entry_rows e) MEMO_ROWS h.0) ∙ large))
  filled_has old new m other e true true valid here few (inr (inl large, is)) =
      absurd (omega (arith, large, leb-true (entry_rows e) MEMO_ROWS few))
  filled_has old new m other e true true valid here few (inr (inr new_one, is)) =
      inl (ap has is ∙ same_test old m other e here ∙ new_one)
  filled_has old new m other e true false valid here large (inr h) = inr (ap has h.1)
  filled_has old new m other e false r valid apart few (inl h) =
      subst (λ (l : List MemoItem). StepHas old None l) (sym h.1)
      (others_stay_or_go old m other e n kind apart valid)
  filled_has old new m other e false r valid apart few (inr h) = inr (ap has h.1)

  step_has : (old new : List MemoItem) (u : MemoUse) → IsMemo old → MemoStep old u new
      → StepHas old (entry_filled u n kind) new
  step_has old new (Looked m other answer) valid h = inr (look_keeps old new m other answer valid h)
  step_has old new (Filled m other e) valid h = filled_has old new m other e
      (is_item_of n kind (record { number = m; kind = other; entry = e }))
      (nat_le (entry_rows e) MEMO_ROWS) valid refl refl h.1

  join : (last filled was between now : Option Entry) → (now ≡ None) ⊎ (now ≡ option_or last between)
      → (between ≡ None) ⊎ (between ≡ option_or filled was)
      → (now ≡ None) ⊎ (now ≡ option_or (option_or last filled) was)
  join last filled was between now (inl none) h = inl none
  join None filled was between now (inr is) (inl none) = inl (is ∙ none)
  join None filled was between now (inr is) (inr then_is) = inr (is ∙ then_is)
  join (Some e) filled was between now (inr is) h = inr is

  run_has : (uses : List MemoUse) (old new : List MemoItem) → IsMemo old → MemoRun old uses new
      → StepHas old (last_filled uses n kind) new
  run_has [] old new valid is = inr (ap has is)
  run_has (u ∷ uses) old new valid (between, step, rest) =
      join (last_filled uses n kind) (entry_filled u n kind) (has old) (has between) (has new)
      (run_has uses between new (step_keeps old between u valid step) rest)
      (step_has old between u valid step)

  or_none : (o : Option Entry) → option_or o None ≡ o
  or_none None = refl
  or_none (Some e) = refl

  pub filled_or_nothing : (uses : List MemoUse) (items : List MemoItem) → MemoRun [] uses items
      → (has items ≡ None) ⊎ (has items ≡ last_filled uses n kind)
  filled_or_nothing uses items run = elim (run_has uses [] items empty_memo run) [
    | inl none ↦ inl none
    | inr is ↦ inr (is ∙ or_none (last_filled uses n kind))
  ]

  pub answers_what_was_filled : (uses : List MemoUse) (items : List MemoItem) (e : Entry)
      → MemoRun [] uses items → has items ≡ Some e → last_filled uses n kind ≡ Some e
  answers_what_was_filled uses items e run found = elim (filled_or_nothing uses items run) [
    | inl none ↦ absurd (true≢false (ap is_some (sym found ∙ none)))
    | inr is ↦ sym is ∙ found
  ]
