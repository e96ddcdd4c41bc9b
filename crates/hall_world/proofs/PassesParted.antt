-- How passes share the tracks of loading traces when a pass is cut, or two are put together.
use Rattle.std.proofs.Common.{◌≡◌, ◌⊎◌, ◌+◌, ◌<◌, ◌≤◌, ◌∙◌, ℕ, Bool, true, false, List, ◌∷◌, ap, arith}
use Rattle.std.proofs.Common.{cond, eqb, eqb-true, eq-eqb, inl, inr, length, max, min, refl, subst, sym}
use Rattle.std.specs.Prelude.{IsSome}
use Rattle.std.proofs.Math.Arith.{lt_of_le-ne}
use Rattle.std.proofs.lemmas.Bool.{cases_lt, false≢true, ne_eqb}
use Rattle.std.proofs.lemmas.List.Elements.{All-cons, All-head, All-tail}
use Rattle.list_lemmas.proofs.Booleans.{one_if}
use Rattle.list_lemmas.proofs.Filters.{count_by-cons}
use Rattle.hall_history.specs.History.{Entry, is_loading, published_of, tracks_of}
use Rattle.hall_history.specs.declared.asks.PassState.{PassState}
use Rattle.hall_history.specs.declared.asks.PassState.TheVariants.{Broken, Straight, Whole}
use Rattle.hall_history.specs.declared.seat.PassView.{PassView}
use Rattle.hall_world.specs.Passes.{HasCome, IsGoodPass, SharePasses, back_part, both_states, covers}
use Rattle.hall_world.specs.Passes.{front_part, front_state, joined_pass}
use Rattle.hall_world.proofs.PassesEntered.{fresh_come}
use Rattle.hall_world.proofs.PassesMoved.{tracks_of_pass}
use Rattle.hall_world.proofs.PassesShared.{covers_from, covers_is}

-- ---- which of two passes covers a track

-- a track that neither covers isn't covered by what is over both, and one that one of them covers is
covers_both : (id track : ℕ) (p q r : PassView) → p.id ≡ r.id → q.id ≡ r.id → p.to ≡ q.from → p.from ≡ r.from
    → q.to ≡ r.to → p.from ≤ p.to → q.from ≤ q.to
    → one_if (covers id track r) ≡ one_if (covers id track p) + one_if (covers id track q)
covers_both id track p q r own own' seam from to low high = by (covers id track r) (covers id track p) (covers id track q) refl refl refl
  where
    by : (a b c : Bool) → covers id track r ≡ a → covers id track p ≡ b → covers id track q ≡ c
        → one_if a ≡ one_if b + one_if c
    by true true false all front back = refl
    by true false true all front back = refl
    by false false false all front back = refl
    by true false false all front back =
        let (is, above, below) = covers_is id track r all in
        elim (cases_lt track p.to) [
          | inl lt ↦ absurd (false≢true (sym front ∙ covers_from id track p (own ∙ is) (omega (arith, from, above)) lt))
          | inr le ↦ absurd (false≢true (sym back ∙ covers_from id track q (own' ∙ is) (omega (arith, seam, le))
              (omega (arith, to, below))))
        ]
    by a true true all front back =
        let (is, above, below) = covers_is id track p front in
        let (is', above', below') = covers_is id track q back in
        absurd (omega (arith, seam, below, above'))
    by false true false all front back =
        let (is, above, below) = covers_is id track p front in
        absurd (false≢true (sym all ∙ covers_from id track r (sym own ∙ is) (omega (arith, from, above))
        (omega (arith, to, seam, high, below))))
    by false false true all front back =
        let (is, above, below) = covers_is id track q back in
        absurd (false≢true (sym all ∙ covers_from id track r (sym own' ∙ is) (omega (arith, from, seam, low, above))
        (omega (arith, to, below))))

-- ---- a pass is cut

module _ (h : List Entry) (p : PassView) (next cut : ℕ) (rest : List PassView) (share : SharePasses h (p ∷ rest))
    (straight : p.state ≡ Straight next) (behind : next ≤ cut) (before : cut < p.to)
  where
    good : IsGoodPass h p
    good = All-head (IsGoodPass h) p rest share.each

    come : HasCome h p (Straight next)
    come = subst (HasCome h p) straight good.come

    front_come : (b : Bool) → eqb next cut ≡ b → HasCome h (front_part p cut) (cond b Whole (Straight next))
    front_come true is = λ track low high. come.2 track low (omega (arith, high, eqb-true next cut is))
    front_come false is = (
      come.0,
      lt_of_le-ne behind (λ same. false≢true (sym is ∙ eq-eqb next cut same)),
      come.2,
      λ track low high. come.3 track low (omega (arith, high, before)),
    )

    front_good : IsGoodPass h (front_part p cut)
    front_good = record {
      of_trace = record {
        info = good.of_trace.info;
        opened = good.of_trace.opened;
        order = omega (arith, come.0, behind);
        within = omega (arith, before, good.of_trace.within);
      };
      loading = λ has. good.loading (inl (omega (arith, come.0, come.1)));
      come = subst (λ (s : PassState). HasCome h (front_part p cut) (front_state s cut)) (sym straight)
          (front_come (eqb next cut) refl);
    }

    back_good : IsGoodPass h (back_part p cut)
    back_good = record {
      of_trace = record {
        info = good.of_trace.info;
        opened = good.of_trace.opened;
        order = omega (arith, before);
        within = good.of_trace.within;
      };
      loading = λ has. good.loading (inl (omega (arith, come.0, come.1)));
      come = fresh_come h (back_part p cut) cut refl
          (λ track low high. come.3 track (omega (arith, low, behind)) high) (eqb cut p.to) refl (omega (arith, before));
    }

    -- the trace has tracks
    not_bare : (id : ℕ) → tracks_of h id ≡ 0 → eqb p.id id ≡ false
    not_bare id none = ne_eqb p.id id (λ own. absurd (omega (
      arith,
      come.1,
      good.of_trace.within,
      tracks_of_pass h p good.of_trace,
      ap (tracks_of h) own,
      none,
    )))

    pub passes_split : SharePasses h (front_part p cut ∷ back_part p cut ∷ rest)
    passes_split = record {
      one_a_track = λ id track loading within. omega (
        arith,
        share.one_a_track id track loading within,
        count_by-cons (covers id track) p rest,
        count_by-cons (covers id track) (front_part p cut) (back_part p cut ∷ rest),
        count_by-cons (covers id track) (back_part p cut) rest,
        covers_both id track (front_part p cut) (back_part p cut) p refl refl refl refl refl
            (omega (arith, come.0, behind)) (omega (arith, before)),
      );
      one_a_trace = λ id loading none. omega (
        arith,
        share.one_a_trace id loading none,
        count_by-cons (λ q. eqb q.id id) p rest,
        count_by-cons (λ q. eqb q.id id) (front_part p cut) (back_part p cut ∷ rest),
        count_by-cons (λ q. eqb q.id id) (back_part p cut) rest,
        ap one_if (not_bare id none),
      );
      each = All-cons (IsGoodPass h) (front_part p cut) (back_part p cut ∷ rest) front_good
          (All-cons (IsGoodPass h) (back_part p cut) rest back_good (All-tail (IsGoodPass h) p rest share.each));
    }

-- ---- two passes are put together

module _ (h : List Entry) (p q : PassView) (rest : List PassView) (share : SharePasses h (p ∷ q ∷ rest))
    (same : p.id ≡ q.id)
  where
    p_good : IsGoodPass h p
    p_good = All-head (IsGoodPass h) p (q ∷ rest) share.each

    q_good : IsGoodPass h q
    q_good = All-head (IsGoodPass h) q rest (All-tail (IsGoodPass h) p (q ∷ rest) share.each)

    all_tracks : length p_good.of_trace.info.names.tracks ≡ length q_good.of_trace.info.names.tracks
    all_tracks = sym (tracks_of_pass h p p_good.of_trace) ∙ ap (tracks_of h) same ∙ tracks_of_pass h q q_good.of_trace

    -- tracks that are published in both parts
    both_come : (low : p.to ≡ q.from ⊎ q.to ≡ p.from) (s t : PassState) → HasCome h p s → HasCome h q t
        → HasCome h (joined_pass p q) (both_states s t)
    both_come seam Whole Whole all all' = λ track low high. elim seam [
      | inl is ↦ elim (cases_lt track p.to) [
        | inl lt ↦ all track (omega (arith, low, is, p_good.of_trace.order, q_good.of_trace.order)) lt
        | inr le ↦ subst (λ n. IsSome (published_of h n track)) (sym same)
            (all' track (omega (arith, le, is)) (omega (arith, high, is, p_good.of_trace.order, q_good.of_trace.order)))
      ]
      | inr is ↦ elim (cases_lt track q.to) [
        | inl lt ↦ subst (λ n. IsSome (published_of h n track)) (sym same)
            (all' track (omega (arith, low, is, p_good.of_trace.order, q_good.of_trace.order)) lt)
        | inr le ↦ all track (omega (arith, le, is)) (omega (arith, high, is, p_good.of_trace.order, q_good.of_trace.order))
      ]
    ]
    both_come seam Whole (Straight n) all all' = _
    both_come seam Whole Broken all all' = _
    both_come seam (Straight n) t all all' = _
    both_come seam Broken t all all' = _

    -- one of them has a track where both together have
    some_track : (p.to ≡ q.from) ⊎ (q.to ≡ p.from) → min p.from q.from < max p.to q.to
        → (p.from < p.to) ⊎ (q.from < q.to)
    some_track seam has = elim (cases_lt p.from p.to) [
      | inl lt ↦ inl lt
      | inr le ↦ inr (elim seam [
        | inl is ↦ omega (arith, has, le, is, p_good.of_trace.order)
        | inr is ↦ omega (arith, has, le, is, p_good.of_trace.order)
      ])
    ]

    joined_good : (p.to ≡ q.from) ⊎ (q.to ≡ p.from) → IsGoodPass h (joined_pass p q)
    joined_good seam = record {
      of_trace = record {
        info = p_good.of_trace.info;
        opened = p_good.of_trace.opened;
        order = omega (arith, p_good.of_trace.order, q_good.of_trace.order);
        within = omega (arith, p_good.of_trace.within, q_good.of_trace.within, all_tracks);
      };
      loading = λ has. elim has [
        | inl some ↦ elim (some_track seam some) [
          | inl of_p ↦ p_good.loading (inl of_p)
          | inr of_q ↦ ap (is_loading h) same ∙ q_good.loading (inl of_q)
        ]
        | inr none ↦ p_good.loading (inr none)
      ];
      come = both_come seam p.state q.state p_good.come q_good.come;
    }

    joined_covers : (id track : ℕ) → (p.to ≡ q.from) ⊎ (q.to ≡ p.from)
        → one_if (covers id track (joined_pass p q)) ≡ one_if (covers id track p) + one_if (covers id track q)
    joined_covers id track (inl is) =
        covers_both id track p q (joined_pass p q) refl (sym same) is
        (omega (arith, is, p_good.of_trace.order, q_good.of_trace.order))
        (omega (arith, is, p_good.of_trace.order, q_good.of_trace.order)) p_good.of_trace.order q_good.of_trace.order
    joined_covers id track (inr is) =
        let swapped = covers_both id track q p (joined_pass p q) (sym same) refl is
        (omega (arith, is, p_good.of_trace.order, q_good.of_trace.order))
        (omega (arith, is, p_good.of_trace.order, q_good.of_trace.order)) q_good.of_trace.order p_good.of_trace.order in
        omega (arith, swapped)

    -- a trace without tracks has one pass alone
    not_two : (id : ℕ) → is_loading h id ≡ true → tracks_of h id ≡ 0 → (b : Bool) → eqb p.id id ≡ b → eqb p.id id ≡ false
    not_two id loading none true own =
        absurd (omega (
          arith,
          share.one_a_trace id loading none,
          count_by-cons (λ r. eqb r.id id) p (q ∷ rest),
          count_by-cons (λ r. eqb r.id id) q rest,
          ap one_if own,
          ap one_if (eq-eqb q.id id (sym same ∙ eqb-true p.id id own)),
        ))
    not_two id loading none false own = own

    pub passes_joined : (p.to ≡ q.from) ⊎ (q.to ≡ p.from) → SharePasses h (joined_pass p q ∷ rest)
    passes_joined seam = record {
      one_a_track = λ id track loading within. omega (
        arith,
        share.one_a_track id track loading within,
        count_by-cons (covers id track) p (q ∷ rest),
        count_by-cons (covers id track) q rest,
        count_by-cons (covers id track) (joined_pass p q) rest,
        joined_covers id track seam,
      );
      one_a_trace = λ id loading none.
          let not_p = not_two id loading none (eqb p.id id) refl in
          let not_q : eqb q.id id ≡ false = ap (λ n. eqb n id) (sym same) ∙ not_p in
          omega (
            arith,
            share.one_a_trace id loading none,
            count_by-cons (λ r. eqb r.id id) p (q ∷ rest),
            count_by-cons (λ r. eqb r.id id) q rest,
            count_by-cons (λ r. eqb r.id id) (joined_pass p q) rest,
            ap one_if not_p,
            ap one_if not_q,
          );
      each = All-cons (IsGoodPass h) (joined_pass p q) rest (joined_good seam)
          (All-tail (IsGoodPass h) q rest (All-tail (IsGoodPass h) p (q ∷ rest) share.each));
    }
