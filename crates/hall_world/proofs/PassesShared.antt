-- How passes share the tracks of loading traces: in another order, and which of them covers a track.
use Rattle.std.proofs.Common.{◌≡◌, ◌≢◌, ◌<◌, ◌≤◌, ◌∙◌, ◌&&◌, ℕ, Bool, true, false, List, ◌∷◌, ap}
use Rattle.std.proofs.Common.{Contains, arith, count_by, eqb, eqb-true, eq-eqb, inl, inr, leb, ltb, subst, sym}
use Rattle.std.specs.Prelude.{IsSome}
use Rattle.std.specs.List.Sorted.{IsPermutation}
use Rattle.std.proofs.lemmas.Bool.{and_from, and_parts, le-leb, leb-true, lt-ltb, ltb-true, ne_eqb}
use Rattle.std.proofs.lemmas.List.Sorted.{All-permutation, sum_by-IsPermutation}
use Rattle.list_lemmas.proofs.Booleans.{one_if}
use Rattle.list_lemmas.proofs.Filters.{count_by-cons}
use Rattle.list_lemmas.proofs.Members.{IsAmong-from_Contains, part-le-sum_by}
use Rattle.hall_history.proofs.HistoryMore.{SameData, SameFate, loading_same, tracks_same}
use Rattle.hall_history.specs.History.{Entry, published_of}
use Rattle.hall_history.specs.declared.asks.PassState.{PassState}
use Rattle.hall_history.specs.declared.asks.PassState.TheVariants.{Broken, Straight, Whole}
use Rattle.hall_history.specs.declared.seat.PassView.{PassView}
use Rattle.hall_world.specs.Passes.{HasCome, IsGoodPass, SharePasses, covers}

-- ---- in another order

pub shares_permuted : (h : List Entry) (xs ys : List PassView) → IsPermutation xs ys → SharePasses h xs → SharePasses h ys
shares_permuted h xs ys moved share =
    let count = λ (q : PassView → Bool). sum_by-IsPermutation (λ p. one_if (q p)) xs ys moved in
    record {
      one_a_track = λ id track loading within. count (covers id track) ∙ share.one_a_track id track loading within;
      one_a_trace = λ id loading none. count (λ p. eqb p.id id) ∙ share.one_a_trace id loading none;
      each = All-permutation (IsGoodPass h) xs ys moved share.each;
    }

-- ---- one pass

pub covers_from : (id track : ℕ) (p : PassView) → p.id ≡ id → p.from ≤ track → track < p.to → covers id track p ≡ true
covers_from id track p is from to =
    and_from _ _ (and_from _ _ (eq-eqb p.id id is) (le-leb p.from track from)) (lt-ltb track p.to to)

pub covers_is : (id track : ℕ) (p : PassView) → covers id track p ≡ true
    → (p.id ≡ id) × (p.from ≤ track) × (track < p.to)
covers_is id track p is =
    let (front, to) = and_parts _ _ is in
    let (own, from) = and_parts _ _ front in
    (eqb-true p.id id own, leb-true p.from track from, ltb-true track p.to to)

pub covers_other : (id track : ℕ) (p : PassView) → p.id ≢ id → covers id track p ≡ false
covers_other id track p other =
    ap (λ b. b && leb p.from track && ltb track p.to) (ne_eqb p.id id other)

-- ---- one of several

-- where one of two covers a track that one pass covers, the other one doesn't
pub others_spare : (q : PassView → Bool) (p : PassView) (rest : List PassView) → count_by q (p ∷ rest) ≡ 1
    → q p ≡ true → (r : PassView) → Contains rest r → q r ≡ true → ⊥
others_spare q p rest one is r among too =
    absurd (omega (
      arith,
      one,
      count_by-cons q p rest,
      ap one_if is,
      part-le-sum_by (λ x. one_if (q x)) rest r (IsAmong-from_Contains rest r among),
      ap one_if too,
    ))

-- what is counted of the others, where the first doesn't pass
pub count_others : (q : PassView → Bool) (p : PassView) (rest : List PassView) → q p ≡ false
    → count_by q rest ≡ count_by q (p ∷ rest)
count_others q p rest is = omega (arith, count_by-cons q p rest, ap one_if is)

-- what is counted, where another first one passes just where the first did
pub count_same : (q : PassView → Bool) (p r : PassView) (rest : List PassView) → q p ≡ q r
    → count_by q (p ∷ rest) ≡ count_by q (r ∷ rest)
count_same q p r rest same =
    omega (arith, count_by-cons q p rest, count_by-cons q r rest, ap one_if same)

-- ---- a history that says the same of a trace

come_same : (h k : List Entry) (p : PassView) (s : PassState)
    → ((track : ℕ) → published_of k p.id track ≡ published_of h p.id track) → HasCome h p s → HasCome k p s
come_same h k p (Straight next) same (from, to, before, behind) = (
  from,
  to,
  λ track low high. subst IsSome (sym (same track)) (before track low high),
  λ track low high. same track ∙ behind track low high,
)
come_same h k p Whole same all = λ track low high. subst IsSome (sym (same track)) (all track low high)
come_same h k p Broken same all = all

pub pass_same : (h k : List Entry) (p : PassView) → SameData h k p.id → SameFate h k p.id → IsGoodPass h p
    → IsGoodPass k p
pass_same h k p same fate good = record {
  of_trace = record {
    info = good.of_trace.info;
    opened = same.info ∙ good.of_trace.opened;
    order = good.of_trace.order;
    within = good.of_trace.within;
  };
  loading = λ has. loading_same h k p.id same fate
      ∙ good.loading (elim has [
        | inl some ↦ inl some
        | inr none ↦ inr (sym (tracks_same h k p.id same) ∙ none)
      ]);
  come = come_same h k p p.state same.published good.come;
}
