-- How passes share the tracks of loading traces after each entry.
use Rattle.std.proofs.Common.{◌≡◌, ◌≢◌, ◌⊎◌, ◌<◌, ◌∙◌, ℕ, Bool, true, false, All, List, [], ◌∷◌, ◌++◌, ap}
use Rattle.std.proofs.Common.{Contains, count_by, eqb, eqb-true, eq-eqb, inl, inr, refl, subst, sym}
use Rattle.std.specs.Prelude.{IsSome}
use Rattle.std.proofs.lemmas.Bool.{false≢true, ne_eqb}
use Rattle.std.proofs.lemmas.List.Elements.{All-contains, All-weaker, All-contains_itself}
use Rattle.hall_history.proofs.HistoryMore.{SameData, SameFate, data_asked, data_of_others}
use Rattle.hall_history.proofs.HistoryMore.{fate_asked, fate_of_others, loading_same}
use Rattle.hall_history.proofs.HistoryMore.{subject, tracks_same}
use Rattle.hall_history.specs.History.{Asked, Entry}
use Rattle.hall_history.specs.History.{is_loading, published_of, tracks_of}
use Rattle.hall_history.specs.declared.asks.PassState.{PassState}
use Rattle.hall_history.specs.declared.asks.PassState.TheVariants.{Broken, Straight, Whole}
use Rattle.hall_history.specs.declared.seat.PassView.{PassView}
use Rattle.hall_world.specs.Passes.{HasCome, IsGoodPass, SharePasses, covers}
use Rattle.hall_world.proofs.PassesShared.{covers_other}
use Rattle.hall_world.proofs.PassesShared.{pass_same}

-- ---- entries that change nothing of any trace

-- each of the passes is good in a history that says the same of all traces
pub shares_same : (h k : List Entry) (passes : List PassView) → ((id : ℕ) → SameData h k id)
    → ((id : ℕ) → SameFate h k id) → SharePasses h passes → SharePasses k passes
shares_same h k passes told fate share = record {
  one_a_track = λ id track loading within. share.one_a_track id track
      (sym (loading_same h k id (told id) (fate id)) ∙ loading)
      (subst (λ n. track < n) (tracks_same h k id (told id)) within);
  one_a_trace = λ id loading none. share.one_a_trace id
      (sym (loading_same h k id (told id) (fate id)) ∙ loading) (sym (tracks_same h k id (told id)) ∙ none);
  each = All-weaker (IsGoodPass h) (IsGoodPass k) (λ q good. pass_same h k q (told q.id) (fate q.id) good) passes
      share.each;
}

pub passes_asked : (h : List Entry) (passes : List PassView) → SharePasses h passes
    → SharePasses (h ++ Asked ∷ []) passes
passes_asked h passes = shares_same h (h ++ Asked ∷ []) passes (data_asked h) (fate_asked h)

-- ---- entries that end the load of a trace

-- what a trace's entry changes of other traces
pub other_id : (e : Entry) (id other : ℕ) → subject e ≡ id → other ≢ id → eqb (subject e) other ≡ false
other_id e id other is apart = ne_eqb (subject e) other (λ same. apart (sym same ∙ is))

module _ (h : List Entry) (e : Entry) (id : ℕ) (about : subject e ≡ id)
    (told : SameData h (h ++ e ∷ []) id) (ended : is_loading (h ++ e ∷ []) id ≡ false)
    (old rest : List PassView) (share : SharePasses h old) (each : All (IsGoodPass h) rest)
    (same : (q : PassView → Bool) → ((p : PassView) → p.id ≡ id → q p ≡ false) → count_by q rest ≡ count_by q old)
    (idle : (q : PassView) → Contains rest q → q.id ≡ id → (q.from < q.to) ⊎ (tracks_of h id ≡ 0) → ⊥)
  where
    now : List Entry
    now = h ++ e ∷ []

    -- a trace that is loading after it is another one
    apart : (other : ℕ) → is_loading (h ++ e ∷ []) other ≡ true → other ≢ id
    apart other loading is = false≢true (sym ended ∙ ap (is_loading (h ++ e ∷ [])) (sym is) ∙ loading)

    good : (q : PassView) → Contains rest q → (b : Bool) → eqb q.id id ≡ b → IsGoodPass (h ++ e ∷ []) q
    good q among true is =
        let own = eqb-true q.id id is in
        let was = All-contains (IsGoodPass h) rest q each among in
        let told' = subst (λ n. SameData h (h ++ e ∷ []) n) (sym own) told in
        record {
          of_trace = record {
            info = was.of_trace.info;
            opened = told'.info ∙ was.of_trace.opened;
            order = was.of_trace.order;
            within = was.of_trace.within;
          };
          loading = λ has. absurd (idle q among own (elim has [
            | inl some ↦ inl some
            | inr none ↦ inr (ap (tracks_of h) (sym own) ∙ sym (tracks_same h (h ++ e ∷ []) q.id told') ∙ none)
          ]));
          come = come_now q q.state told'.published was.come;
        }
      where
        come_now : (p : PassView) (s : PassState)
            → ((track : ℕ) → published_of (h ++ e ∷ []) p.id track ≡ published_of h p.id track) → HasCome h p s
            → HasCome (h ++ e ∷ []) p s
        come_now p (Straight next) alike (from, to, before, behind) = (
          from,
          to,
          λ track low high. subst IsSome (sym (alike track)) (before track low high),
          λ track low high. alike track ∙ behind track low high,
        )
        come_now p Whole alike all = λ track low high. subst IsSome (sym (alike track)) (all track low high)
        come_now p Broken alike all = all
    good q among false is =
        let others = other_id e id q.id about (λ own. false≢true (sym is ∙ eq-eqb q.id id own)) in
        pass_same h (h ++ e ∷ []) q (data_of_others h e q.id others) (fate_of_others h e q.id others)
        (All-contains (IsGoodPass h) rest q each among)

    pub passes_ended : SharePasses (h ++ e ∷ []) rest
    passes_ended = record {
      one_a_track = λ other track loading within.
          let ne = other_id e id other about (apart other loading) in
          let told' = data_of_others h e other ne in
          let fate' = fate_of_others h e other ne in
          same (covers other track) (λ p own. covers_other other track p (λ is. apart other loading (sym is ∙ own)))
          ∙ share.one_a_track other track (sym (loading_same h (h ++ e ∷ []) other told' fate') ∙ loading)
          (subst (λ n. track < n) (tracks_same h (h ++ e ∷ []) other told') within);
      one_a_trace = λ other loading none.
          let ne = other_id e id other about (apart other loading) in
          let told' = data_of_others h e other ne in
          let fate' = fate_of_others h e other ne in
          same (λ p. eqb p.id other) (λ p own. ne_eqb p.id other (λ is. apart other loading (sym is ∙ own)))
          ∙ share.one_a_trace other (sym (loading_same h (h ++ e ∷ []) other told' fate') ∙ loading)
          (sym (tracks_same h (h ++ e ∷ []) other told') ∙ none);
      each = All-weaker (Contains rest) (IsGoodPass (h ++ e ∷ [])) (λ q among. good q among (eqb q.id id) refl) rest
          (All-contains_itself rest);
    }
