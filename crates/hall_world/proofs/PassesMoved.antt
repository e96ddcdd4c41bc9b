-- How passes share the tracks of loading traces after a publication, and when a pass is cut or two are put together.
use Rattle.std.proofs.Common.{◌≡◌, ◌+◌, ◌<◌, ◌≤◌, ◌∙◌, ◌&&◌, ℕ, Bool, true, false, List, [], ◌∷◌, ◌++◌, ap, arith}
use Rattle.std.proofs.Common.{Contains, Some, None, cond, eqb, eqb-true, eq-eqb, inl, inr, length, refl, subst, sym}
use Rattle.std.specs.Option.{option_map_or, option_or}
use Rattle.std.specs.Prelude.{IsSome, is_some}
use Rattle.std.proofs.lemmas.Bool.{false≢true}
use Rattle.std.proofs.Math.Arith.{lt_of_le-ne}
use Rattle.std.proofs.lemmas.List.Elements.{All-contains, All-cons, All-contains_itself, All-head, All-tail, All-weaker}
use Rattle.list_lemmas.proofs.Options.{or_None}
use Rattle.hall_history.proofs.HistoryMore.{info_more, published_more}
use Rattle.hall_history.specs.History.{Entry, Published, PublishedTree, info_of, is_loading, published_of}
use Rattle.hall_history.specs.History.{tracks_of}
use Rattle.hall_history.specs.Passes.{state_after}
use Rattle.hall_history.specs.declared.asks.PassState.{PassState}
use Rattle.hall_history.specs.declared.asks.PassState.TheVariants.{Broken, Straight, Whole}
use Rattle.hall_history.specs.declared.seat.PassView.{PassView}
use Rattle.hall_world.specs.Passes.{HasCome, IsGoodPass, IsPassOf, SharePasses, covers}
use Rattle.hall_world.specs.Passes.{pass_after}
use Rattle.hall_world.proofs.PassesShared.{count_same, covers_from, others_spare}
use Rattle.registry_core.proofs.LawEntries.{loading_published}
use Rattle.trace_base.specs.declared.names.TraceInfo.{TraceInfo}

-- the tracks of a good pass's trace
pub tracks_of_pass : (h : List Entry) (p : PassView) (of : IsPassOf h p) → tracks_of h p.id ≡ length of.info.names.tracks
tracks_of_pass h p of = ap (λ o. option_map_or (λ (i : TraceInfo). length i.names.tracks) o 0) of.opened

-- what a pass has come to in another history that says the same of its tracks
come_alike : (h k : List Entry) (p : PassView) (s : PassState)
    → ((track : ℕ) → p.from ≤ track → track < p.to → published_of k p.id track ≡ published_of h p.id track)
    → HasCome h p s → HasCome k p s
come_alike h k p (Straight next) same (from, to, before, behind) = (
  from,
  to,
  λ track low high. subst IsSome (sym (same track low (omega (arith, high, to)))) (before track low high),
  λ track low high. same track (omega (arith, low, from)) high ∙ behind track low high,
)
come_alike h k p Whole same all = λ track low high. subst IsSome (sym (same track low high)) (all track low high)
come_alike h k p Broken same all = all

-- ---- a publication

module _ (h : List Entry) (p : PassView) (next : ℕ) (what : PublishedTree) (rest : List PassView)
    (share : SharePasses h (p ∷ rest)) (straight : p.state ≡ Straight next)
  where
    abbrev now : List Entry
    now = h ++ Published p.id next what ∷ []

    good : IsGoodPass h p
    good = All-head (IsGoodPass h) p rest share.each

    come : HasCome h p (Straight next)
    come = subst (HasCome h p) straight good.come

    -- the pass has the track, and its trace is loading
    pub ready_to_publish : (is_loading h p.id ≡ true) × (published_of h p.id next ≡ None) × (next < tracks_of h p.id)
    ready_to_publish = (
      good.loading (inl (omega (arith, come.0, come.1))),
      come.3 next (omega arith) come.1,
      omega (arith, come.1, good.of_trace.within, tracks_of_pass h p good.of_trace),
    )

    info_same : (id : ℕ) → info_of now id ≡ info_of h id
    info_same id = info_more h (Published p.id next what) id ∙ or_None (info_of h id)

    tracks_alike : (id : ℕ) → tracks_of now id ≡ tracks_of h id
    tracks_alike id = ap (λ o. option_map_or (λ (i : TraceInfo). length i.names.tracks) o 0) (info_same id)

    -- another track stays as it is
    track_same : (id track : ℕ) → (id ≡ p.id → track ≡ next → ⊥) → published_of now id track ≡ published_of h id track
    track_same id track other =
        published_more h (Published p.id next what) id track
        ∙ ap (option_or (published_of h id track)) (by (eqb p.id id) (eqb next track) refl refl)
        ∙ or_None (published_of h id track)
      where
        by : (a b : Bool) → eqb p.id id ≡ a → eqb next track ≡ b → cond (a && b) (Some what) None ≡ None
        by true true own is = absurd (other (sym (eqb-true p.id id own)) (sym (eqb-true next track is)))
        by true false own is = refl
        by false true own is = refl
        by false false own is = refl

    -- and this one is published
    track_now : published_of now p.id next ≡ Some what
    track_now =
        published_more h (Published p.id next what) p.id next
        ∙ ap (λ o. option_or o (cond (eqb p.id p.id && eqb next next) (Some what) None)) ready_to_publish.1
        ∙ ap (λ b. cond (b && eqb next next) (Some what) None) (eq-eqb p.id p.id refl)
        ∙ ap (λ b. cond b (Some what) None) (eq-eqb next next refl)

    -- a pass that isn't over the track stays good
    stay : (q : PassView) → IsGoodPass h q → (q.id ≡ p.id → q.from ≤ next → next < q.to → ⊥) → IsGoodPass now q
    stay q was spares = record {
      of_trace = record {
        info = was.of_trace.info;
        opened = info_same q.id ∙ was.of_trace.opened;
        order = was.of_trace.order;
        within = was.of_trace.within;
      };
      loading = λ has. loading_published h p.id next what q.id ∙ was.loading (elim has [
        | inl some ↦ inl some
        | inr none ↦ inr (sym (tracks_alike q.id) ∙ none)
      ]);
      come = come_alike h now q q.state
          (λ track low high. track_same q.id track (λ own is. spares own (omega (arith, is, low)) (omega (arith, is, high))))
          was.come;
    }

    -- the others aren't over the track
    others_stay : (q : PassView) → Contains rest q → IsGoodPass now q
    others_stay q among =
        stay q (All-contains (IsGoodPass h) rest q (All-tail (IsGoodPass h) p rest share.each) among)
        (λ own low high.
        let (loading, none, within) = ready_to_publish in
        others_spare (covers p.id next) p rest (share.one_a_track p.id next loading within)
        (covers_from p.id next p refl come.0 come.1) q among (covers_from p.id next q own low high))

    -- the pass's own tracks: those before the next are published, and now this one
    before_now : (track : ℕ) → p.from ≤ track → track < next + 1 → IsSome (published_of now p.id track)
    before_now track low high = by (eqb track next) refl
      where
        by : (b : Bool) → eqb track next ≡ b → IsSome (published_of now p.id track)
        by true is = subst (λ n. IsSome (published_of now p.id n)) (sym (eqb-true track next is)) (ap is_some track_now)
        by false is =
            let apart = λ (same : track ≡ next). false≢true (sym is ∙ eq-eqb track next same) in
            subst IsSome (sym (track_same p.id track (λ own same. apart same)))
            (come.2 track low (lt_of_le-ne (omega (arith, high)) apart))

    after_come : (b : Bool) → eqb (next + 1) p.to ≡ b → HasCome now (pass_after p) (cond b Whole (Straight (next + 1)))
    after_come true is = λ track low high. before_now track low (omega (arith, high, eqb-true (next + 1) p.to is))
    after_come false is = (
      omega (arith, come.0),
      lt_of_le-ne (omega (arith, come.1)) (λ same. false≢true (sym is ∙ eq-eqb (next + 1) p.to same)),
      before_now,
      λ track low high. track_same p.id track (λ own same. absurd (omega (arith, same, low)))
          ∙ come.3 track (omega (arith, low)) high,
    )

    after_good : IsGoodPass now (pass_after p)
    after_good = record {
      of_trace = record {
        info = good.of_trace.info;
        opened = info_same p.id ∙ good.of_trace.opened;
        order = good.of_trace.order;
        within = good.of_trace.within;
      };
      loading = λ has. loading_published h p.id next what p.id ∙ ready_to_publish.0;
      come = subst (λ (s : PassState). HasCome now (pass_after p) (state_after s p.to))
          (sym straight) (after_come (eqb (next + 1) p.to) refl);
    }

    pub passes_published : SharePasses (h ++ Published p.id next what ∷ []) (pass_after p ∷ rest)
    passes_published = record {
      one_a_track = λ id track loading within.
          count_same (covers id track) (pass_after p) p rest refl
          ∙ share.one_a_track id track (sym (loading_published h p.id next what id) ∙ loading)
          (subst (λ n. track < n) (tracks_alike id) within);
      one_a_trace = λ id loading none.
          count_same (λ q. eqb q.id id) (pass_after p) p rest refl
          ∙ share.one_a_trace id (sym (loading_published h p.id next what id) ∙ loading)
          (sym (tracks_alike id) ∙ none);
      each = All-cons (IsGoodPass now) (pass_after p) rest after_good
          (All-weaker (Contains rest) (IsGoodPass now) others_stay rest (All-contains_itself rest));
    }
