-- What a history tells after an entry that ends a trace.
use Rattle.std.proofs.Common.{◌≡◌, ℕ, ◌+◌, false, ◌&&◌, ◌||◌, not, eqb, List}
use Rattle.std.proofs.Common.{[], ◌∷◌, ◌++◌, length, filter, sum_by, None, refl, sym, ap, ap₂, ◌∙◌}
use Rattle.std.proofs.Common.{append-nil, eq-eqb}
use Rattle.std.specs.List.{list_any, range_with_len}
use Rattle.std.specs.Option.{option_to_list}
use Rattle.std.proofs.Math.Bool.{and-false, and-true}
use Rattle.std.proofs.Math.Path.{fun_ext}
use mathlib.Core.Bool.{or-false}
use Rattle.list_lemmas.proofs.AroundOne.{AgreeBut, sum_without}
use Rattle.list_lemmas.proofs.Booleans.{and_not-or, and_swap}
use Rattle.list_lemmas.proofs.Found.{any_more}
use Rattle.hall_history.specs.History.{Closed, Dropped, EntryOf, ends, is_loading, is_open, opened_id}
use Rattle.hall_history.specs.History.{opened_ids, promised, seals}
use Rattle.hall_history.proofs.HistoryMore.{SameData, data_closed, data_dropped, opened_more}
use Rattle.hall_history.proofs.HistoryMore.{subject}
use Rattle.hall_history.proofs.HistoryFronts.{loading_open}
use Rattle.registry_core.proofs.KeepsMore.{promise_same, promise_told, promised_to}
use Rattle.registry_core.proofs.LawEntries.{open_within}

-- the entry ends this trace, and tells nothing else
pub record IsEndOf {X : Type 0} (e : EntryOf X) (id : ℕ) : Type 0 where
  pub about : subject e ≡ id
  pub opens : opened_id e ≡ None
  pub ended : (x : ℕ) → ends x e ≡ eqb id x
  pub sealed : (x : ℕ) → seals x e ≡ false
  pub told : (entries : List (EntryOf X)) (x : ℕ) → SameData entries (entries ++ e ∷ []) x

-- a trace that is dropped ends
pub IsEndOf-dropped : {X : Type 0} (id : ℕ) → IsEndOf {X = X} (Dropped id) id
IsEndOf-dropped id = record {
  about = refl;
  opens = refl;
  ended = λ x. refl;
  sealed = λ x. refl;
  told = λ entries x. data_dropped entries id x;
}

-- so does one that is closed
pub IsEndOf-closed : {X : Type 0} (id : ℕ) → IsEndOf {X = X} (Closed id) id
IsEndOf-closed id = record {
  about = refl;
  opens = refl;
  ended = λ x. refl;
  sealed = λ x. refl;
  told = λ entries x. data_closed entries id x;
}

-- no trace is opened
pub ended_ids : {X : Type 0} (entries : List (EntryOf X)) (e : EntryOf X) (id : ℕ) → IsEndOf e id
    → opened_ids (entries ++ e ∷ []) ≡ opened_ids entries
ended_ids entries e id end = opened_more entries e
    ∙ ap (λ o. opened_ids entries ++ option_to_list o) end.opens ∙ append-nil _

-- the traces that were open still are, but for this one
pub ended_open : {X : Type 0} (entries : List (EntryOf X)) (e : EntryOf X) (id x : ℕ) → IsEndOf e id
    → is_open (entries ++ e ∷ []) x ≡ (is_open entries x && not (eqb id x))
unfolding is_open
ended_open entries e id x end = ap₂ (λ ids b. list_any (λ other. eqb other x) ids && not b)
    (ended_ids entries e id end)
    (any_more (ends x) entries e ∙ ap (λ b. list_any (ends x) entries || b) (end.ended x))
    ∙ and_not-or (list_any (λ other. eqb other x) (opened_ids entries)) (list_any (ends x) entries) (eqb id x)

-- so are those that were loading
pub ended_loading : {X : Type 0} (entries : List (EntryOf X)) (e : EntryOf X) (id x : ℕ) → IsEndOf e id
    → is_loading (entries ++ e ∷ []) x ≡ (is_loading entries x && not (eqb id x))
unfolding is_loading
ended_loading entries e id x end = ap₂ (λ a b. a && not b) (ended_open entries e id x end)
    (any_more (seals x) entries e ∙ ap (λ b. list_any (seals x) entries || b) (end.sealed x) ∙ or-false _)
    ∙ and_swap (is_open entries x) (not (eqb id x)) (not (list_any (seals x) entries))

-- ---- promised places

-- the promised places lose those of the trace
pub ended_promised : {X : Type 0} (entries : List (EntryOf X)) (e : EntryOf X) (id first : ℕ) → IsEndOf e id
    → opened_ids entries ≡ range_with_len first (length (opened_ids entries))
    → promised entries
    ≡ promised (entries ++ e ∷ []) + promised_to entries id
unfolding promised
ended_promised entries e id first end ids =
    let new = entries ++ e ∷ [] in
    let n = length (opened_ids entries) in
    let agree : AgreeBut id (is_loading entries) (is_loading new) =
    λ x ne. ended_loading entries e id x end ∙ ap (λ b. is_loading entries x && not b) ne ∙ and-true _ in
    let failed : is_loading new id ≡ false = ended_loading entries e id id end
    ∙ ap (λ b. is_loading entries id && not b) (eq-eqb id id refl) ∙ and-false _ in
    let same : promise_told new ≡ promise_told entries =
    fun_ext (λ x. promise_same entries new x (end.told entries x)) in
    let now : promised new
    ≡ sum_by (promise_told entries) (filter (is_loading new) (range_with_len first n)) =
    ap₂ (λ f xs. sum_by f (filter (is_loading new) xs)) same (ended_ids entries e id end ∙ ids) in
    ap (λ xs. sum_by (promise_told entries) (filter (is_loading entries) xs)) ids
    ∙ sum_without (promise_told entries) (is_loading entries) (is_loading new) id first n agree failed
    (λ loads. open_within entries first n id ids (loading_open entries id loads))
    ∙ ap (λ m. m + promised_to entries id) (sym now)
