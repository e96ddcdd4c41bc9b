-- What an entry does to the passes.
use Rattle.std.proofs.Common.{◌≡◌, ℕ, ◌+◌, ◌<◌, ◌≤◌, true, false, ◌&&◌, ◌||◌, not, cond, eqb, List}
use Rattle.std.proofs.Common.{[], ◌∷◌, ◌++◌, length, map, filter, Option, None, Some, refl, sym, ap}
use Rattle.std.proofs.Common.{ap₂, ◌∙◌, arith, get_or, Contains, inl, inr}
use Rattle.std.specs.Prelude.{is_some}
use Rattle.std.specs.List.{list_any}
use Rattle.std.specs.Option.{option_map_or, option_or}
use Rattle.std.proofs.Math.Path.{fun_ext}
use Rattle.std.proofs.lemmas.List.{append-nil, map-append, get_or-map, length-map}
use Rattle.std.proofs.lemmas.List.Elements.{filter-append, filter_passes}
use Rattle.std.proofs.lemmas.List.Folds.{list_any-append}
use Rattle.std.proofs.lemmas.Bool.{eq-eqb}
use Rattle.std.proofs.lemmas.Bool.{or_right}
use Rattle.std.proofs.lemmas.Bool.Decides.{eqb_tells}
use Rattle.std.proofs.Math.Bool.{and-true}
use Rattle.list_lemmas.proofs.AroundOne.{AgreeBut, Around, Lacks, Lacks-filter, filter_same, filters_around}
use Rattle.list_lemmas.proofs.AroundOne.{map_same, range_below}
use Rattle.list_lemmas.proofs.Booleans.{and_not}
use Rattle.list_lemmas.proofs.Found.{any_more}
use Rattle.list_lemmas.proofs.Maps.{map_middle}
use Rattle.trace_base.specs.declared.names.TraceInfo.{TraceInfo}
use Rattle.hall_history.specs.History.{EntryOf, Opened, Published, Sealed, Dropped, Closed, Asked}
use Rattle.hall_history.specs.History.{ends, seals}
use Rattle.hall_history.specs.History.{opened_ids, info_of, is_open, is_loading, open_ids}
use Rattle.hall_history.specs.History.{published_count}
use Rattle.plain_hall.specs.Loading.{loading_ids, pass_of, passes_of}
use Rattle.plain_hall.specs.Orderly.{IsOrderly}
use Rattle.hall_history.specs.Seat.{Adds, Removes, Replaces}
use Rattle.hall_history.specs.declared.seat.PassView.{PassView}
use Rattle.plain_hall.proofs.Legal.{open_within}
use Rattle.hall_history.proofs.HistoryMore.{SameData, SameFate, subject, opened_more, info_more, count_more}
use Rattle.hall_history.proofs.HistoryMore.{data_of_others, fate_of_others, data_asked, data_closed}
use Rattle.hall_history.proofs.HistoryMore.{fate_asked}
use Rattle.hall_history.proofs.HistoryMore.{fate_published, loading_same, tracks_same}
use Rattle.hall_history.proofs.HistoryFronts.{loading_open}
use Rattle.registry_core.proofs.EndedMore.{IsEndOf-closed, ended_ids, ended_loading}

-- the histories agree on all traces but one
pub record AgreeOnOthers {X : Type 0} (old new : List (EntryOf X)) (id : ℕ) : Type 0 where
  pub loads : AgreeBut id (is_loading old) (is_loading new)
  pub passes : AgreeBut id (pass_of old) (pass_of new)

pass_same : {X : Type 0} → (old new : List (EntryOf X)) (id : ℕ) → SameData old new id → pass_of new id ≡ pass_of old id
pass_same old new id same = rw (same.count, tracks_same old new id same) refl

pub others_agree : {X : Type 0} → (entries : List (EntryOf X)) (e : EntryOf X) → AgreeOnOthers entries (entries ++ e ∷ []) (subject e)
others_agree entries e = record {
  loads = λ x ne. loading_same entries _ x (data_of_others entries e x ne) (fate_of_others entries e x ne);
  passes = λ x ne. pass_same entries _ x (data_of_others entries e x ne);
}

-- the loading traces before and after, around one of them
loads_around : {X : Type 0} → (old new : List (EntryOf X)) (id : ℕ) → IsOrderly old → opened_ids new ≡ opened_ids old
    → AgreeOnOthers old new id → is_open old id ≡ true → Around (is_loading old) (is_loading new) id
    (opened_ids old)
loads_around old new id orderly ids agree on =
    let within = open_within old id orderly on in
    rw orderly.ids (filters_around (is_loading old) (is_loading new) id 1 (length (opened_ids old)) agree.loads
    within.0 (omega (arith, within.1)))

loading_same_by : {X : Type 0} → (old new : List (EntryOf X)) (id : ℕ) → opened_ids new ≡ opened_ids old → SameFate old new id
    → is_loading new id ≡ is_loading old id
unfolding is_loading is_open
loading_same_by old new id ids fate = rw (ids, fate.ended, fate.sealed) refl

pub open_same_by : {X : Type 0} → (old new : List (EntryOf X)) (id : ℕ) → opened_ids new ≡ opened_ids old
    → list_any (ends id) new ≡ list_any (ends id) old → is_open new id ≡ is_open old id
unfolding is_open
open_same_by old new id ids ended = rw (ids, ended) refl

-- nothing changes
pub record KeepsAll {X : Type 0} (old new : List (EntryOf X)) : Type 0 where
  pub passes : passes_of new ≡ passes_of old
  pub opens : length (open_ids new) ≡ length (open_ids old)

pub asked_keeps : {X : Type 0} → (entries : List (EntryOf X)) → KeepsAll entries (entries ++ Asked ∷ [])
unfolding open_ids
asked_keeps entries =
    let new = entries ++ Asked ∷ [] in
    let ids : opened_ids new ≡ opened_ids entries = opened_more entries Asked ∙ append-nil _ in
    let loads : is_loading new ≡ is_loading entries =
    fun_ext (λ x. loading_same_by entries new x ids (fate_asked entries x)) in
    let opens : is_open new ≡ is_open entries =
    fun_ext (λ x. open_same_by entries new x ids (fate_asked entries x).ended) in
    let passes : pass_of new ≡ pass_of entries = fun_ext (λ x. pass_same entries new x (data_asked entries x))
    in
    record {
      passes = ap₂ map passes (ap₂ filter loads ids);
      opens = ap length (ap₂ filter opens ids);
    }

-- a trace that isn't loading is closed
pub closed_passes : {X : Type 0} → (entries : List (EntryOf X)) (id : ℕ) → is_loading entries id ≡ false
    → passes_of (entries ++ Closed id ∷ []) ≡ passes_of entries
closed_passes entries id sealed =
    let new = entries ++ Closed id ∷ [] in
    let ids : opened_ids new ≡ opened_ids entries = ended_ids entries (Closed id) id (IsEndOf-closed id) in
    let loads : is_loading new ≡ is_loading entries =
    fun_ext (λ x. ended_loading entries (Closed id) id x (IsEndOf-closed id) ∙ elim (eqb_tells id x) [
      | inl this ↦
          let off : is_loading entries x ≡ false = ap (is_loading entries) (sym this.1) ∙ sealed in
          ap₂ (λ a b. a && not b) off this.0 ∙ sym off
      | inr other ↦ ap (λ b. is_loading entries x && not b) other.0 ∙ and-true _
    ]) in
    let passes : pass_of new ≡ pass_of entries =
    fun_ext (λ x. pass_same entries new x (data_closed entries id x)) in
    ap₂ map passes (ap₂ filter loads ids)

-- one pass goes on where a track is published
pub published_goes_on : {X : Type 0} → (entries : List (EntryOf X)) (id track : ℕ) (s : X) → IsOrderly entries
    → is_loading entries id ≡ true → Replaces (passes_of entries)
    (passes_of (entries ++ Published id track s ∷ [])) (pass_of entries id)
    (pass_of (entries ++ Published id track s ∷ []) id)
published_goes_on entries id track s orderly loading =
    let new = entries ++ Published id track s ∷ [] in
    let ids : opened_ids new ≡ opened_ids entries = opened_more entries (Published id track s) ∙ append-nil _
    in
    let loads : is_loading new ≡ is_loading entries =
    fun_ext (λ x. loading_same_by entries new x ids (fate_published entries id track s x)) in
    let agree = others_agree entries (Published id track s) in
    let parts = loads_around entries new id orderly ids agree (loading_open entries id loading) in
    let was : loading_ids entries ≡ parts.front ++ id ∷ []
    ++ parts.back = parts.old ∙ ap (λ b. parts.front ++ cond b (id ∷ []) [] ++ parts.back) loading in
    let is : loading_ids new ≡ parts.front ++ id ∷ [] ++ parts.back = ap₂ filter loads ids ∙ was in
    let front : map (pass_of new) parts.front ≡ map (pass_of entries) parts.front =
    map_same _ _ id parts.front agree.passes parts.lacks_front in
    let back : map (pass_of new) parts.back ≡ map (pass_of entries) parts.back = map_same _ _ id parts.back
    agree.passes parts.lacks_back in
    record {
      front = map (pass_of entries) parts.front;
      back = map (pass_of entries) parts.back;
      was = ap (map (pass_of entries)) was ∙ map_middle (pass_of entries) parts.front id parts.back;
      now = ap (map (pass_of new)) is ∙ map_middle (pass_of new) parts.front id parts.back ∙ ap₂
          (λ xs ys. xs ++ pass_of new id ∷ ys) front back;
    }

-- one pass is gone where a load ends
ends_by : {X : Type 0} → (old new : List (EntryOf X)) (id : ℕ) → IsOrderly old → is_loading old id ≡ true
    → is_loading new id ≡ false → opened_ids new ≡ opened_ids old → AgreeOnOthers old new id → Removes (passes_of old) (passes_of new) (pass_of old id)
ends_by old new id orderly loading ended ids agree =
    let parts = loads_around old new id orderly ids agree (loading_open old id loading) in
    let was : loading_ids old ≡ parts.front ++ id ∷ []
    ++ parts.back = parts.old ∙ ap (λ b. parts.front ++ cond b (id ∷ []) [] ++ parts.back) loading in
    let is : loading_ids new ≡ parts.front ++ [] ++ parts.back = ap (filter (is_loading new)) ids ∙ parts.new
    ∙ ap (λ b. parts.front ++ cond b (id ∷ []) [] ++ parts.back) ended in
    let front : map (pass_of new) parts.front ≡ map (pass_of old) parts.front = map_same _ _ id parts.front
    agree.passes parts.lacks_front in
    let back : map (pass_of new) parts.back ≡ map (pass_of old) parts.back = map_same _ _ id parts.back
    agree.passes parts.lacks_back in
    record {
      front = map (pass_of old) parts.front;
      back = map (pass_of old) parts.back;
      was = ap (map (pass_of old)) was ∙ map_middle (pass_of old) parts.front id parts.back;
      now = ap (map (pass_of new)) is ∙ map-append (pass_of new) (parts.front ++ []) parts.back ∙ ap
          (λ xs. map (pass_of new) xs ++ map (pass_of new) parts.back) (append-nil parts.front) ∙ ap₂ ◌++◌
          front back;
    }

pub sealed_ends : {X : Type 0} → (entries : List (EntryOf X)) (id : ℕ) → IsOrderly entries → is_loading entries id ≡ true
    → Removes (passes_of entries) (passes_of (entries ++ Sealed id ∷ [])) (pass_of entries id)
unfolding is_loading
sealed_ends entries id orderly loading =
    let new = entries ++ Sealed id ∷ [] in
    let sealed : list_any (seals id) new ≡ true = any_more (seals id) entries (Sealed id) ∙ or_right _ _
    (eq-eqb id id refl) in
    ends_by entries new id orderly loading (and_not (is_open new id) _ sealed)
    (opened_more entries (Sealed id) ∙ append-nil _) (others_agree entries (Sealed id))

pub dropped_closed : {X : Type 0} → (entries : List (EntryOf X)) (id : ℕ) → is_open (entries ++ Dropped id ∷ []) id ≡ false
unfolding is_open
dropped_closed entries id = and_not (list_any (λ other. eqb other id)
    (opened_ids (entries ++ Dropped id ∷ []))) _ (any_more (ends id) entries (Dropped id) ∙ or_right _ _
    (eq-eqb id id refl))

pub dropped_ends : {X : Type 0} → (entries : List (EntryOf X)) (id : ℕ) → IsOrderly entries → is_loading entries id ≡ true
    → Removes (passes_of entries) (passes_of (entries ++ Dropped id ∷ [])) (pass_of entries id)
unfolding is_loading
dropped_ends entries id orderly loading =
    let new = entries ++ Dropped id ∷ [] in
    ends_by entries new id orderly loading
    (ap (λ b. b && not (list_any (seals id) new)) (dropped_closed entries id))
    (opened_more entries (Dropped id) ∙ append-nil _) (others_agree entries (Dropped id))

-- One trace is opened, and a pass over its tracks is added.
pub record Opens {X : Type 0} (old new : List (EntryOf X)) (id : ℕ) (info : TraceInfo) : Type 0 where
  pub told : info_of new id ≡ Some info
  pub count : published_count new id ≡ 0
  pub passes : Adds (passes_of old) (passes_of new) (pass_of new id)
  pub ids : opened_ids new ≡ opened_ids old ++ id ∷ []

opened_on : {X : Type 0} → (entries : List (EntryOf X)) (id : ℕ) (info : TraceInfo) → IsOrderly entries
    → length (opened_ids entries) < id → is_open (entries ++ Opened id info ∷ []) id ≡ true
unfolding is_open
opened_on entries id info orderly above =
    let new = entries ++ Opened id info ∷ [] in
    let among : list_any (λ other. eqb other id) (opened_ids new) ≡ true =
    ap (list_any (λ other. eqb other id)) (opened_more entries (Opened id info)) ∙ list_any-append
    (λ other. eqb other id) (opened_ids entries) (id ∷ []) ∙ or_right _ _
    (ap (λ b. b || false) (eq-eqb id id refl)) in
    let on : list_any (ends id) new ≡ false = any_more (ends id) entries (Opened id info) ∙ ap
    (λ b. b || false) (orderly.unborn id above).ended in
    ap₂ (λ a b. a && not b) among on

opened_loads : {X : Type 0} → (entries : List (EntryOf X)) (id : ℕ) (info : TraceInfo) → IsOrderly entries
    → length (opened_ids entries) < id → is_loading (entries ++ Opened id info ∷ []) id ≡ true
unfolding is_loading
opened_loads entries id info orderly above =
    let new = entries ++ Opened id info ∷ [] in
    let unsealed : list_any (seals id) new ≡ false = any_more (seals id) entries (Opened id info) ∙ ap
    (λ b. b || false) (orderly.unborn id above).sealed in
    ap₂ (λ a b. a && not b) (opened_on entries id info orderly above) unsealed

unborn_info : (o : Option TraceInfo) (info : TraceInfo) → is_some o ≡ false
    → option_or o (Some info) ≡ Some info
unborn_info None info e = refl
unborn_info (Some other) info e = absurd cc

unborn_count : (o : Option TraceInfo) (n : ℕ) → is_some o ≡ false
    → n ≤ option_map_or (λ (info : TraceInfo). length info.names.tracks) o 0 → n ≡ 0
unborn_count None n e le = omega arith
unborn_count (Some other) n e le = absurd cc

pub opened_opens : {X : Type 0} → (entries : List (EntryOf X)) (id : ℕ) (info : TraceInfo) → IsOrderly entries
    → id ≡ length (opened_ids entries) + 1 → Opens entries (entries ++ Opened id info ∷ []) id info
opened_opens entries id info orderly next =
    let new = entries ++ Opened id info ∷ [] in
    let above : length (opened_ids entries) < id = omega arith in
    let ids : opened_ids new ≡ opened_ids entries ++ id ∷ [] = opened_more entries (Opened id info) in
    let agree = others_agree entries (Opened id info) in
    let lacks : Lacks id (opened_ids entries) =
    rw orderly.ids (range_below 1 (length (opened_ids entries)) id (omega arith)) in
    let is : loading_ids new ≡ loading_ids entries ++ id
    ∷ [] = ap (filter (is_loading new)) ids ∙ filter-append (is_loading new) (opened_ids entries)
    (id ∷ []) ∙ ap₂ (λ xs b. xs ++ cond b (id ∷ []) [])
    (filter_same _ _ id (opened_ids entries) agree.loads lacks)
    (opened_loads entries id info orderly above) in
    let unborn = orderly.unborn id above in
    let told : info_of new id ≡ Some info = info_more entries (Opened id info) id ∙ ap
    (λ b. option_or (info_of entries id) (cond b (Some info) None)) (eq-eqb id id refl) ∙ unborn_info
    (info_of entries id) info unborn.info in
    let none : published_count entries id ≡ 0 = unborn_count (info_of entries id) _ unborn.info
    (orderly.counted id) in
    let count : published_count new id ≡ 0 = count_more entries (Opened id info) id ∙ omega arith in
    let loaders = Lacks-filter (is_loading entries) id (opened_ids entries) lacks in
    record {
      told = told;
      count = count;
      passes = ap (map (pass_of new)) is ∙ map-append (pass_of new) (loading_ids entries) (id ∷ []) ∙ ap
          (λ xs. xs ++ pass_of new id ∷ []) (map_same _ _ id (loading_ids entries) agree.passes loaders);
      ids = ids;
    }

-- a pass of the seat is that of a loading trace
pub has_loading : {X : Type 0} → (entries : List (EntryOf X)) (view : PassView) → Contains (passes_of entries) view
    → (is_loading entries view.id ≡ true) × (pass_of entries view.id ≡ view)
has_loading entries view has =
    let ids = loading_ids entries in
    let id = get_or ids has.0 0 in
    let lt : has.0 < length ids = omega (arith, has.1, length-map ids (pass_of entries)) in
    let at : pass_of entries id ≡ view = sym (get_or-map (pass_of entries) ids has.0 0 view lt) ∙ has.2 in
    let same : id ≡ view.id = ap (λ (pass : PassView). pass.id) at in
    let loads : is_loading entries id ≡ true = filter_passes (is_loading entries) (opened_ids entries) has.0 0
    lt in
    (ap (is_loading entries) (sym same) ∙ loads, ap (pass_of entries) (sym same) ∙ at)
