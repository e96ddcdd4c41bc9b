-- How passes share the tracks of loading traces after a load's entries, each with its pass.
use Rattle.std.proofs.Common.{◌≡◌, ◌≢◌, ◌⊎◌, ◌<◌, ◌≤◌, ◌∙◌, ◌&&◌, ℕ, Bool, true, false, List, [], ◌∷◌, ◌++◌, ap, arith}
use Rattle.std.proofs.Common.{Contains, Some, None, cond, count_by, eqb, eqb-true, eq-eqb, inl, inr, length, not, refl, subst, sym}
use Rattle.std.specs.Option.{option_map_or, option_or}
use Rattle.std.proofs.lemmas.Bool.{false≢true, ne_eqb}
use Rattle.std.proofs.Math.Arith.{lt_of_le-ne}
use Rattle.std.proofs.Math.Bool.{and-false}
use Rattle.std.proofs.lemmas.List.Elements.{All-contains, All-cons, All-contains_itself, All-tail, All-weaker}
use Rattle.list_lemmas.proofs.Filters.{count_by-cons}
use Rattle.list_lemmas.proofs.Booleans.{one_if}
use Rattle.list_lemmas.proofs.Members.{has_here, has_there}
use Rattle.std.proofs.lemmas.Option.{none-some}
use Rattle.hall_history.proofs.HistoryMore.{SameData, data_closed, data_dropped, data_of_others, data_sealed, fate_of_others}
use Rattle.hall_history.proofs.HistoryMore.{info_more, loading_same, published_more, subject, tracks_same}
use Rattle.hall_history.specs.History.{Closed, Dropped, Entry, Opened, Sealed}
use Rattle.hall_history.specs.History.{info_of, is_loading, published_of, tracks_of}
use Rattle.hall_history.specs.declared.asks.PassState.TheVariants.{Straight, Whole}
use Rattle.hall_history.specs.declared.seat.PassView.{PassView}
use Rattle.hall_world.specs.Passes.{HasCome, IsGoodPass, SharePasses, covers, fresh_pass}
use Rattle.hall_world.proofs.PassesKept.{passes_ended}
use Rattle.hall_world.proofs.PassesShared.{count_others, covers_from, covers_other}
use Rattle.hall_world.proofs.PassesShared.{others_spare, pass_same}
use Rattle.registry_core.proofs.EndedMore.{IsEndOf, IsEndOf-closed, IsEndOf-dropped, ended_loading}
use Rattle.registry_core.proofs.LawEntries.{opened_loads, sealed_loaded}
use Rattle.registry_core.specs.Standing.{IsUntold}
use Rattle.trace_base.specs.declared.names.TraceInfo.{TraceInfo}

-- ---- the end of a load

-- a trace that an entry ends isn't loading after it
ended_false : (h : List Entry) (e : Entry) (id : ℕ) → IsEndOf e id → is_loading (h ++ e ∷ []) id ≡ false
ended_false h e id end =
    ended_loading h e id id end ∙ ap (λ b. is_loading h id && not b) (eq-eqb id id refl) ∙ and-false (is_loading h id)

-- a pass over all tracks of a loading trace leaves no track to others, and no trace
idle_others : (h : List Entry) (p : PassView) (rest : List PassView) → SharePasses h (p ∷ rest) → p.from ≡ 0
    → p.to ≡ tracks_of h p.id → is_loading h p.id ≡ true → (q : PassView) → Contains rest q → q.id ≡ p.id
    → (q.from < q.to) ⊎ (tracks_of h p.id ≡ 0) → ⊥
idle_others h p rest share from to loading q among own (inl some) =
    let good = All-contains (IsGoodPass h) rest q (All-tail (IsGoodPass h) p rest share.each) among in
    let tracks : tracks_of h p.id ≡ length good.of_trace.info.names.tracks =
    ap (tracks_of h) (sym own) ∙ ap (λ o. option_map_or (λ (i : TraceInfo). length i.names.tracks) o 0) good.of_trace.opened in
    others_spare (covers p.id q.from) p rest
    (share.one_a_track p.id q.from loading (omega (arith, tracks, some, good.of_trace.within)))
    (covers_from p.id q.from p refl (omega (arith, from)) (omega (arith, to, tracks, some, good.of_trace.within)))
    q among (covers_from p.id q.from q own (omega arith) some)
idle_others h p rest share from to loading q among own (inr none) =
    others_spare (λ x. eqb x.id p.id) p rest (share.one_a_trace p.id loading none) (eq-eqb p.id p.id refl)
    q among (eq-eqb q.id p.id own)

-- the entry ends the load of the pass's trace, and the pass goes
load_ends : (h : List Entry) (e : Entry) (p : PassView) (rest : List PassView)
    → subject e ≡ p.id → SameData h (h ++ e ∷ []) p.id
    → is_loading (h ++ e ∷ []) p.id ≡ false → SharePasses h (p ∷ rest) → p.from ≡ 0
    → p.to ≡ tracks_of h p.id → is_loading h p.id ≡ true → SharePasses (h ++ e ∷ []) rest
load_ends h e p rest about told ended share from to loading =
    passes_ended h e p.id about told ended (p ∷ rest) rest share (All-tail (IsGoodPass h) p rest share.each)
    (λ q apart. count_others q p rest (apart p refl)) (idle_others h p rest share from to loading)

pub passes_sealed : (h : List Entry) (p : PassView) (rest : List PassView) → SharePasses h (p ∷ rest) → p.from ≡ 0
    → p.to ≡ tracks_of h p.id → is_loading h p.id ≡ true → SharePasses (h ++ Sealed p.id ∷ []) rest
passes_sealed h p rest =
    load_ends h (Sealed p.id) p rest refl (data_sealed h p.id p.id) (sealed_loaded h p.id)

pub passes_dropped : (h : List Entry) (p : PassView) (rest : List PassView) → SharePasses h (p ∷ rest) → p.from ≡ 0
    → p.to ≡ tracks_of h p.id → is_loading h p.id ≡ true → SharePasses (h ++ Dropped p.id ∷ []) rest
passes_dropped h p rest =
    load_ends h (Dropped p.id) p rest refl (data_dropped h p.id p.id)
    (ended_false h (Dropped p.id) p.id (IsEndOf-dropped p.id))

-- a trace that isn't loading is closed
pub passes_closed : (h : List Entry) (id : ℕ) (passes : List PassView) → SharePasses h passes
    → is_loading h id ≡ false → SharePasses (h ++ Closed id ∷ []) passes
passes_closed h id passes share sealed =
    passes_ended h (Closed id) id refl (data_closed h id id) (ended_false h (Closed id) id (IsEndOf-closed id))
    passes passes share share.each (λ q apart. refl)
    (λ q among own has.
    let good = All-contains (IsGoodPass h) passes q share.each among in
    false≢true (sym sealed ∙ ap (is_loading h) (sym own) ∙ good.loading (elim has [
      | inl some ↦ inl some
      | inr none ↦ inr (ap (tracks_of h) own ∙ none)
    ])))

-- ---- a trace that is opened

-- how far a pass over tracks of which none is published has come
pub fresh_come : (h : List Entry) (p : PassView) (at : ℕ) → p.from ≡ at
    → ((track : ℕ) → at ≤ track → track < p.to → published_of h p.id track ≡ None) → (b : Bool) → eqb at p.to ≡ b
    → at ≤ p.to → HasCome h p (cond b Whole (Straight at))
fresh_come h p at from none true is low = λ track below above. absurd (omega (arith, eqb-true at p.to is, from, below, above))
fresh_come h p at from none false is low = (
  omega (arith, from),
  lt_of_le-ne low (λ same. false≢true (sym is ∙ eq-eqb at p.to same)),
  λ track below above. absurd (omega (arith, from, below, above)),
  none,
)

-- no pass is counted of a trace that none is of
none_counted : (q : PassView → Bool) (passes : List PassView) → ((p : PassView) → Contains passes p → q p ≡ false)
    → count_by q passes ≡ 0
none_counted q [] none = refl
none_counted q (p ∷ ps) none =
    omega (
      arith,
      count_by-cons q p ps,
      ap one_if (none p (has_here p ps)),
      none_counted q ps (λ r among. none r (has_there p r ps among)),
    )

module _ (h : List Entry) (id : ℕ) (info : TraceInfo) (untold : IsUntold h id) (passes : List PassView)
    (share : SharePasses h passes)
  where
    opened : List Entry
    opened = h ++ Opened id info ∷ []

    -- the passes so far are of other traces
    of_others : (q : PassView) → Contains passes q → q.id ≢ id
    of_others q among own =
        let good = All-contains (IsGoodPass h) passes q share.each among in
        none-some good.of_trace.info (sym (ap (info_of h) own ∙ untold.info) ∙ good.of_trace.opened)

    ne : (other : ℕ) → other ≢ id → eqb id other ≡ false
    ne other apart = ne_eqb id other (λ same. apart (sym same))

    stay : (q : PassView) → Contains passes q → IsGoodPass (h ++ Opened id info ∷ []) q
    stay q among =
        let others = ne q.id (of_others q among) in
        pass_same h (h ++ Opened id info ∷ []) q (data_of_others h (Opened id info) q.id others)
        (fate_of_others h (Opened id info) q.id others) (All-contains (IsGoodPass h) passes q share.each among)

    -- the trace is told with what it was opened with
    info_now : info_of (h ++ Opened id info ∷ []) id ≡ Some info
    info_now = info_more h (Opened id info) id ∙ ap (λ o. option_or o (cond (eqb id id) (Some info) None)) untold.info
        ∙ ap (λ b. cond b (Some info) None) (eq-eqb id id refl)

    fresh : IsGoodPass (h ++ Opened id info ∷ []) (fresh_pass id info)
    fresh = record {
      of_trace = record { info = info; opened = info_now; order = omega arith; within = omega arith };
      loading = λ has. opened_loads h id info untold;
      come = fresh_come (h ++ Opened id info ∷ []) (fresh_pass id info) 0 refl
          (λ track low high. published_more h (Opened id info) id track ∙ ap (λ o. option_or o None) (untold.published track))
          (eqb 0 (length info.names.tracks)) refl (omega arith);
    }

    track_counted : (other track : ℕ) (b : Bool) → eqb other id ≡ b
        → is_loading (h ++ Opened id info ∷ []) other ≡ true → track < tracks_of (h ++ Opened id info ∷ []) other
        → count_by (covers other track) (fresh_pass id info ∷ passes) ≡ 1
    track_counted other track true is loading within =
        let own = eqb-true other id is in
        let tracks : tracks_of (h ++ Opened id info ∷ []) other ≡ length info.names.tracks =
        ap (tracks_of (h ++ Opened id info ∷ [])) own
        ∙ ap (λ o. option_map_or (λ (i : TraceInfo). length i.names.tracks) o 0) info_now in
        omega (
          arith,
          count_by-cons (covers other track) (fresh_pass id info) passes,
          ap one_if (covers_from other track (fresh_pass id info) (sym own) (omega arith)
              (omega (arith, within, tracks))),
          none_counted (covers other track) passes
              (λ p among. covers_other other track p (λ same. of_others p among (same ∙ own))),
        )
    track_counted other track false is loading within =
        let apart = λ (same : other ≡ id). false≢true (sym is ∙ eq-eqb other id same) in
        let told' = data_of_others h (Opened id info) other (ne other apart) in
        let fate' = fate_of_others h (Opened id info) other (ne other apart) in
        sym (count_others (covers other track) (fresh_pass id info) passes
        (covers_other other track (fresh_pass id info) (λ same. apart (sym same))))
        ∙ share.one_a_track other track (sym (loading_same h (h ++ Opened id info ∷ []) other told' fate') ∙ loading)
        (subst (λ n. track < n) (tracks_same h (h ++ Opened id info ∷ []) other told') within)

    trace_counted : (other : ℕ) (b : Bool) → eqb other id ≡ b → is_loading (h ++ Opened id info ∷ []) other ≡ true
        → tracks_of (h ++ Opened id info ∷ []) other ≡ 0
        → count_by (λ p. eqb p.id other) (fresh_pass id info ∷ passes) ≡ 1
    trace_counted other true is loading none =
        let own = eqb-true other id is in
        omega (
          arith,
          count_by-cons (λ p. eqb p.id other) (fresh_pass id info) passes,
          ap one_if (eq-eqb id other (sym own)),
          none_counted (λ p. eqb p.id other) passes
              (λ p among. ne_eqb p.id other (λ same. of_others p among (same ∙ own))),
        )
    trace_counted other false is loading none =
        let apart = λ (same : other ≡ id). false≢true (sym is ∙ eq-eqb other id same) in
        let told' = data_of_others h (Opened id info) other (ne other apart) in
        let fate' = fate_of_others h (Opened id info) other (ne other apart) in
        sym (count_others (λ p. eqb p.id other) (fresh_pass id info) passes (ne other apart))
        ∙ share.one_a_trace other (sym (loading_same h (h ++ Opened id info ∷ []) other told' fate') ∙ loading)
        (sym (tracks_same h (h ++ Opened id info ∷ []) other told') ∙ none)

    pub passes_opened : SharePasses (h ++ Opened id info ∷ []) (fresh_pass id info ∷ passes)
    passes_opened = record {
      one_a_track = λ other track loading within. track_counted other track (eqb other id) refl loading within;
      one_a_trace = λ other loading none. trace_counted other (eqb other id) refl loading none;
      each = All-cons (IsGoodPass (h ++ Opened id info ∷ [])) (fresh_pass id info) passes fresh
          (All-weaker (Contains passes) (IsGoodPass (h ++ Opened id info ∷ [])) stay passes
          (All-contains_itself passes));
    }
