-- What was served stays served in a history that goes on.
use Rattle.std.proofs.Common.{◌≡◌, ℕ, zero, suc, ◌≤◌, Bool, List, [], ◌∷◌, ◌++◌, length, map, take}
use Rattle.std.proofs.Common.{slice_get, Some, sym, ap, ◌∙◌, subst, arith, length-append}
use Rattle.std.proofs.lemmas.List.{take-append-le}
use Rattle.std.specs.List.{AllByRecursion}
use Rattle.hall_history.specs.History.{Entry}
use Rattle.trace_session.specs.Replies.{entry_at}
use Rattle.trace_session.specs.Served.{Served, IsServed, IsAnswered, Standing, standing, AreAt, last_place}
use Rattle.trace_session.proofs.Grow.{AreAt-more}

-- a place that has an entry is within the history
slice_get-within : (xs : List Entry) (i : ℕ) (e : Entry) → slice_get xs i ≡ Some e → suc i ≤ length xs
slice_get-within [] i e is = absurd (cc)
slice_get-within (x ∷ xs) zero e is = omega arith
slice_get-within (x ∷ xs) (suc i) e is = omega (arith, slice_get-within xs i e is)

within : (history : List Entry) (k : ℕ) (e : Entry) → entry_at history k ≡ Some e → k ≤ length history
within history zero e is = omega arith
within history (suc i) e is = slice_get-within history i e is

last_within : (history : List Entry) (block : List ℕ) (entries : List Entry) → AreAt history block entries
    → last_place block ≤ length history
last_within history [] entries at = omega arith
last_within history (k ∷ []) [] at = absurd (cc)
last_within history (k ∷ []) (e ∷ es) at = let here : entry_at history k ≡ Some e = cc
    in within history k e here
last_within history (k ∷ l ∷ ks) [] at = absurd (cc)
last_within history (k ∷ l ∷ ks) (e ∷ es) at =
    let rest : map (entry_at history) (l ∷ ks) ≡ map Some es = cc in last_within history (l ∷ ks) es rest

-- a request stands where it stood
standing_later : (alone : Bool) (history more : List Entry) (before : ℕ) (block : List ℕ)
    → before ≤ length history → last_place block ≤ length history
    → standing alone history before block ≡ standing alone (history ++ more) before block
standing_later alone history more before block came last =
    ap (λ (b : List Entry). at b (take (last_place block) history))
    (sym (take-append-le before history more came))
    ∙ ap (λ (h : List Entry). at (take before (history ++ more)) h)
    (sym (take-append-le (last_place block) history more last))
  where
    at : List Entry → List Entry → Standing
    at b h = record { alone = alone; before = b; place = last_place block; seen = h }

-- a request that was served is served in each history that goes on
pub IsServed-more : (alone : Bool) (history more : List Entry) (x : Served) → IsServed alone history x
    → IsServed alone (history ++ more) x
IsServed-more alone history more x s = (
  s.0,
  AreAt-more history more x.block s.0 s.1,
  omega (arith, s.2, length-append history more),
  subst (λ (z : Standing). IsAnswered z x.request x.reply s.0)
      (standing_later alone history more x.before x.block s.2 (last_within history x.block s.0 s.1)) s.3,
)

pub all_later : (alone : Bool) (history more : List Entry) (served : List Served)
    → AllByRecursion (IsServed alone history) served → AllByRecursion (IsServed alone (history ++ more))
    served
all_later alone history more [] all = tt
all_later alone history more (x ∷ xs) all =
    (IsServed-more alone history more x all.0, all_later alone history more xs all.1)
