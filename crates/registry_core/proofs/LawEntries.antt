-- What one entry more leaves of what a history tells, and what it does to the promised places, where ids
-- count up from any number.
use Rattle.std.proofs.Common.{◌≡◌, ℕ, ◌+◌, ◌<◌, ◌≤◌, true, false, ◌||◌, ◌&&◌, not, cond}
use Rattle.std.proofs.Common.{eqb, List, [], ◌∷◌, ◌++◌, filter, sum_by, refl, sym, ap, ap₂, ◌∙◌}
use Rattle.std.proofs.Common.{arith}
use Rattle.std.specs.List.{list_any, range_with_len}
use Rattle.std.proofs.lemmas.Bool.{and_parts, and_from, and_right, eq-eqb, not_from_false, not_from_true}
use Rattle.std.proofs.lemmas.Bool.{or_left, or_right}
use Rattle.std.proofs.lemmas.List.{append-nil}
use Rattle.std.proofs.lemmas.List.Elements.{filter-append}
use Rattle.std.proofs.lemmas.List.Folds.{list_any-append}
use mathlib.Core.Bool.{or-false}
use Rattle.list_lemmas.proofs.AroundOne.{AgreeBut, Around, Lacks, Lacks-filter, filter_same, filters_around}
use Rattle.list_lemmas.proofs.AroundOne.{range_below, sum_around, sum_same}
use Rattle.list_lemmas.proofs.Found.{any_more}
use Rattle.list_lemmas.proofs.Ranges.{in_range}
use Rattle.trace_base.specs.declared.names.TraceInfo.{TraceInfo}
use Rattle.hall_history.proofs.HistoryMore.{data_of_others, fate_of_others, fate_published}
use Rattle.hall_history.proofs.HistoryMore.{loading_same, open_same, opened_more, subject}
use Rattle.hall_history.specs.History.{EntryOf, Opened, Published, Sealed, ends, is_loading, is_open}
use Rattle.hall_history.specs.History.{opened_ids, promised, seals}
use Rattle.registry_core.specs.Standing.{IsUntold, KeepsTrace, RootsAre, Start}
use Rattle.registry_core.specs.Trace.{Trace}
use Rattle.registry_core.proofs.KeepsMore.{IsUntold-more, KeepsTrace-more, promise_same, promise_told}
use Rattle.registry_core.proofs.KeepsMore.{promised_to}

-- ---- ids that count up

-- an open trace has an id that was given
pub open_within : {X : Type 0} (entries : List (EntryOf X)) (a n id : ℕ)
    → opened_ids entries ≡ range_with_len a n → is_open entries id ≡ true → (a ≤ id) × (id < a + n)
unfolding is_open
open_within entries a n id ids on = in_range a n id
    (sym (ap (list_any (λ other. eqb other id)) ids) ∙ (and_parts _ _ on).0)

-- ---- the promised places

-- an entry leaves the others loading
loads_agree : {X : Type 0} (entries : List (EntryOf X)) (e : EntryOf X)
    → AgreeBut (subject e) (is_loading entries) (is_loading (entries ++ e ∷ []))
loads_agree entries e x ne =
    loading_same entries _ x (data_of_others entries e x ne) (fate_of_others entries e x ne)

-- and their promises
promises_agree : {X : Type 0} (entries : List (EntryOf X)) (e : EntryOf X)
    → AgreeBut (subject e) (promise_told entries) (promise_told (entries ++ e ∷ []))
promises_agree entries e x ne = promise_same entries _ x (data_of_others entries e x ne)

-- an entry that opens nothing changes the promise of its trace alone
pub promised_more : {X : Type 0} (entries : List (EntryOf X)) (e : EntryOf X) (a n : ℕ)
    → opened_ids entries ≡ range_with_len a n → opened_ids (entries ++ e ∷ []) ≡ opened_ids entries
    → a ≤ subject e → subject e < a + n
    → promised entries + promised_to (entries ++ e ∷ []) (subject e) ≡ promised (entries ++ e ∷ [])
    + promised_to entries (subject e)
unfolding promised
promised_more entries e a n ids same low high =
    let new = entries ++ e ∷ [] in
    let id = subject e in
    let parts : Around (is_loading entries) (is_loading new) id (opened_ids entries) =
    rw ids (filters_around (is_loading entries) (is_loading new) id a n (loads_agree entries e) low high) in
    let was : promised entries ≡ sum_by (promise_told entries) parts.front + promised_to entries id
    + sum_by (promise_told entries) parts.back = ap (sum_by (promise_told entries)) parts.old ∙ sum_around
    (promise_told entries) parts.front parts.back (is_loading entries id) id in
    let is : promised new ≡ sum_by (promise_told new) parts.front + promised_to new id
    + sum_by (promise_told new) parts.back =
    ap (λ xs. sum_by (promise_told new) (filter (is_loading new) xs)) same ∙
    ap (sum_by (promise_told new)) parts.new ∙ sum_around (promise_told new) parts.front parts.back
    (is_loading new id) id in
    let front : sum_by (promise_told new) parts.front ≡ sum_by (promise_told entries) parts.front =
    sum_same _ _ id parts.front (promises_agree entries e) parts.lacks_front in
    let back : sum_by (promise_told new) parts.back ≡ sum_by (promise_told entries) parts.back =
    sum_same _ _ id parts.back (promises_agree entries e) parts.lacks_back in
    omega arith

-- an entry that opens a trace adds its promise
pub promised_opened : {X : Type 0} (entries : List (EntryOf X)) (id : ℕ) (info : TraceInfo) (a n : ℕ)
    → opened_ids entries ≡ range_with_len a n → id ≡ a + n
    → promised (entries ++ Opened id info ∷ []) ≡ promised entries
    + promised_to (entries ++ Opened id info ∷ []) id
unfolding promised
promised_opened entries id info a n ids next =
    let new = entries ++ Opened id info ∷ [] in
    let lacks : Lacks id (opened_ids entries) = rw ids (range_below a n id (omega arith)) in
    let loaders = filter (is_loading entries) (opened_ids entries) in
    let parts : filter (is_loading new) (opened_ids new) ≡ loaders ++ cond (is_loading new id) (id ∷ []) []
    ++ [] = ap (filter (is_loading new)) (opened_more entries (Opened id info)) ∙ filter-append
    (is_loading new) (opened_ids entries) (id ∷ []) ∙ ap (λ xs. xs ++ cond (is_loading new id) (id ∷ []) [])
    (filter_same _ _ id (opened_ids entries) (loads_agree entries (Opened id info)) lacks) ∙ sym
    (append-nil (loaders ++ cond (is_loading new id) (id ∷ []) [])) in
    let is : promised new ≡ sum_by (promise_told new) loaders + promised_to new id
    + sum_by (promise_told new) [] = ap (sum_by (promise_told new)) parts ∙ sum_around (promise_told new)
    loaders [] (is_loading new id) id in
    let was : sum_by (promise_told new) loaders ≡ promised entries =
    sum_same _ _ id loaders (promises_agree entries (Opened id info))
    (Lacks-filter (is_loading entries) id (opened_ids entries) lacks) in
    let none : sum_by (promise_told new) [] ≡ 0 = refl in
    omega arith

-- ---- what is open

-- the same traces are open after an entry that opens and ends none
pub open_stays : {X : Type 0} (entries : List (EntryOf X)) (e : EntryOf X) (id : ℕ)
    → opened_ids (entries ++ e ∷ []) ≡ opened_ids entries → ends id e ≡ false
    → is_open (entries ++ e ∷ []) id ≡ is_open entries id
unfolding is_open
open_stays entries e id ids no_end =
    let ended : list_any (ends id) (entries ++ e ∷ []) ≡ list_any (ends id) entries =
    any_more (ends id) entries e ∙ ap (λ b. list_any (ends id) entries || b) no_end ∙ or-false _ in
    rw (ids, ended) refl

-- what is open of others is so after any entry
pub open_of_others : {X : Type 0} (entries : List (EntryOf X)) (e : EntryOf X) (id : ℕ)
    → eqb (subject e) id ≡ false → is_open (entries ++ e ∷ []) id ≡ is_open entries id
open_of_others entries e id ne =
    open_same entries _ id (data_of_others entries e id ne) (fate_of_others entries e id ne)

-- so is what is loading
pub loading_of_others : {X : Type 0} (entries : List (EntryOf X)) (e : EntryOf X) (id : ℕ)
    → eqb (subject e) id ≡ false → is_loading (entries ++ e ∷ []) id ≡ is_loading entries id
loading_of_others entries e id ne =
    loading_same entries _ id (data_of_others entries e id ne) (fate_of_others entries e id ne)

-- a trace that is opened is open
pub opened_opens : {X : Type 0} (entries : List (EntryOf X)) (id : ℕ) (info : TraceInfo) → IsUntold entries id
    → is_open (entries ++ Opened id info ∷ []) id ≡ true
unfolding is_open
opened_opens entries id info none =
    let new = entries ++ Opened id info ∷ [] in
    let this = eq-eqb id id refl in
    let among : list_any (λ other. eqb other id) (opened_ids new) ≡ true =
    ap (list_any (λ other. eqb other id)) (opened_more entries (Opened id info)) ∙ list_any-append
    (λ other. eqb other id) (opened_ids entries) (id ∷ []) ∙ or_right _ _ (or_left _ _ this) in
    let on : list_any (ends id) new ≡ false = any_more (ends id) entries (Opened id info) ∙ or-false _ ∙
    none.ended in
    and_from _ _ among (not_from_false _ on)

-- and loading
pub opened_loads : {X : Type 0} (entries : List (EntryOf X)) (id : ℕ) (info : TraceInfo) → IsUntold entries id
    → is_loading (entries ++ Opened id info ∷ []) id ≡ true
unfolding is_loading
opened_loads entries id info none =
    let unsealed : list_any (seals id) (entries ++ Opened id info ∷ []) ≡ false =
    any_more (seals id) entries (Opened id info) ∙ or-false _ ∙ none.sealed in
    and_from _ _ (opened_opens entries id info none) (not_from_false _ unsealed)

-- a trace of which a track is published loads on
pub loading_published : {X : Type 0} (entries : List (EntryOf X)) (other track : ℕ) (what : X) (id : ℕ)
    → is_loading (entries ++ Published other track what ∷ []) id ≡ is_loading entries id
unfolding is_loading
loading_published entries other track what id =
    let ids : opened_ids (entries ++ Published other track what ∷ []) ≡ opened_ids entries =
    opened_more entries (Published other track what) ∙ append-nil (opened_ids entries) in
    ap₂ (λ a b. a && not b) (open_stays entries (Published other track what) id ids refl)
    (fate_published entries other track what id).sealed

-- a trace that is sealed no longer loads
pub sealed_loaded : {X : Type 0} (entries : List (EntryOf X)) (id : ℕ)
    → is_loading (entries ++ Sealed id ∷ []) id ≡ false
unfolding is_loading
sealed_loaded entries id =
    let sealed : list_any (seals id) (entries ++ Sealed id ∷ []) ≡ true =
    any_more (seals id) entries (Sealed id) ∙ or_right _ _ (eq-eqb id id refl) in
    and_right _ _ (not_from_true _ sealed)

-- ---- what is told of a trace

-- a trace of which nothing was told stays so, but for an entry of its own
pub untold_stays : {X : Type 0} (entries : List (EntryOf X)) (e : EntryOf X) (id : ℕ)
    → eqb (subject e) id ≡ false → IsUntold entries id → IsUntold (entries ++ e ∷ []) id
untold_stays entries e id ne was =
    IsUntold-more entries e id (data_of_others entries e id ne) (fate_of_others entries e id ne) was

-- an entry that isn't about the trace leaves it
pub keeps_trace_of_others : {X : Type 0} (are : RootsAre X) (start : Start) (entries : List (EntryOf X))
    (e : EntryOf X) (t : Trace) → eqb (subject e) t.id ≡ false → KeepsTrace are start entries t
    → KeepsTrace are start (entries ++ e ∷ []) t
keeps_trace_of_others are start entries e t ne keeps =
    KeepsTrace-more are start entries e t t (data_of_others entries e t.id ne)
    (record { id = refl; info = refl; tracks = refl })
    (keeps.loading ∙ sym (loading_of_others entries e t.id ne)) keeps
