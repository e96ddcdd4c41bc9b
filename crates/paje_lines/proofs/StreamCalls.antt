-- How many calls are open behind one more event of a track.
use Rattle.std.proofs.Common.{◌≡◌, ℕ, ◌+◌, ◌-◌, ◌≤◌, Bool, true, false, cond, List, [], ◌∷◌, ◌++◌}
use Rattle.std.proofs.Common.{filter, None, ap, ◌∙◌, arith, count_by}
use Rattle.std.specs.List.{after_last, last_or}
use Rattle.std.specs.Option.{option_map_or}
use Rattle.std.proofs.lemmas.List.Sums.{sum_by_push}
use Rattle.list_lemmas.proofs.Filters.{filter-failed, filter-passed}
use Rattle.list_lemmas.proofs.Last.{after_last-kept, after_last-more, last-push}
use Rattle.paje_defs.specs.declared.event_name.EventName.{EventName}
use Rattle.paje_lines.specs.EventLine.{clears, pops, pushes, sets}
use Rattle.paje_lines.specs.States.{entered_by_last, open_behind}

-- ---- open calls

-- the last event that leaves all calls, as before
entered-kept : (es : List EventName) (e : EventName) → clears e ≡ false
    → entered_by_last (es ++ e ∷ []) ≡ entered_by_last es
entered-kept es e keeps = ap (λ xs. cond (option_map_or sets (last_or None xs) false) 1 0)
    (filter-failed clears es e keeps)

entered-cleared : (es : List EventName) (e : EventName) → clears e ≡ true
    → entered_by_last (es ++ e ∷ []) ≡ cond (sets e) 1 0
entered-cleared es e all = ap (λ xs. cond (option_map_or sets (last_or None xs) false) 1 0)
    (filter-passed clears es e all) ∙ ap (λ o. cond (option_map_or sets o false) 1 0)
    (last-push (filter clears es) e)

-- how many pass of those since all calls were last left
abbrev since : (EventName → Bool) → List EventName → ℕ
since p es = count_by p (after_last clears es)

-- as many as were left were open
abbrev pub AreEntered : List EventName → Type 0
AreEntered es = since pops es ≤ entered_by_last es + since pushes es

since-kept : (p : EventName → Bool) (es : List EventName) (e : EventName) (b : Bool) → clears e ≡ false
    → p e ≡ b → since p (es ++ e ∷ []) ≡ since p es + cond b 1 0
since-kept p es e b keeps is = ap (count_by p) (after_last-more clears es e keeps)
    ∙ (sum_by_push (λ x. cond (p x) 1 0) (after_last clears es) e
    ∙ ap (λ b. since p es + cond b 1 0) is)

since-cleared : (p : EventName → Bool) (es : List EventName) (e : EventName) → clears e ≡ true
    → since p (es ++ e ∷ []) ≡ 0
since-cleared p es e all = ap (count_by p) (after_last-kept clears es e all)

-- what an event makes of the calls that were open
pub record Opens (es : List EventName) (e : EventName) (n : ℕ) : Type 0 where
  pub now_open : open_behind (es ++ e ∷ []) ≡ n
  pub entered : AreEntered (es ++ e ∷ [])

pub opens-cleared : (es : List EventName) (e : EventName) → clears e ≡ true → Opens es e (cond (sets e) 1 0)
opens-cleared es e all =
    let popped : since pops (es ++ e ∷ []) ≡ 0 = since-cleared pops es e all in
    record {
      now_open = omega (arith, entered-cleared es e all, since-cleared pushes es e all, popped);
      entered = omega (arith, popped);
    }

pub opens-pushed : (es : List EventName) (e : EventName) → clears e ≡ false → pushes e ≡ true → pops e ≡ false
    → AreEntered es → Opens es e (open_behind es + 1)
opens-pushed es e keeps one none before =
    let pushed : since pushes (es ++ e ∷ []) ≡ since pushes es + 1 = since-kept pushes es e true keeps one in
    let popped : since pops (es ++ e ∷ []) ≡ since pops es + 0 = since-kept pops es e false keeps none in
    record {
      now_open = omega (arith, entered-kept es e keeps, pushed, popped, before);
      entered = omega (arith, entered-kept es e keeps, pushed, popped, before);
    }

pub opens-popped : (es : List EventName) (e : EventName) → clears e ≡ false → pushes e ≡ false → pops e ≡ true
    → 1 ≤ open_behind es → Opens es e (open_behind es - 1)
opens-popped es e keeps none one some =
    let pushed : since pushes (es ++ e ∷ []) ≡ since pushes es + 0 =
    since-kept pushes es e false keeps none in
    let popped : since pops (es ++ e ∷ []) ≡ since pops es + 1 = since-kept pops es e true keeps one in
    record {
      now_open = omega (arith, entered-kept es e keeps, pushed, popped);
      entered = omega (arith, entered-kept es e keeps, pushed, popped, some);
    }
