-- The first kids, and one more.
use Rattle.std.proofs.Common.{◌≡◌, ℕ, ◌+◌, ◌≤◌, zero, suc, List, [], ◌∷◌, ◌++◌, Some, slice_get, refl}
use Rattle.std.proofs.Common.{ap, subst, ◌∙◌, arith, cond, add-one}
use Rattle.node_key.specs.Branches.{branches}
use Rattle.node_key.specs.Events.{stream_from}
use Rattle.node_key.specs.Tree.{Kids, count, kid, no_kids, total}
use Rattle.node_key.specs.declared.tree.Branch.{Branch}
use Rattle.profile_laws.specs.Parts.{AreTimed, IsTimed, parts_from}
use Rattle.profile_laws.specs.Streams.{idle}
use Rattle.profile_walk.specs.Crossing.{crossings_below, is_across}
use Rattle.profile_walk.specs.Calls.{calls, calls_below}
use Rattle.profile_walk.specs.Summed.{first, kid_parts}
use Rattle.trace_base.specs.declared.stream.TrackStream.{TrackStream}

-- the kids and one behind them
pub push : Kids → Branch → Kids
push no_kids u = kid u.gap u.tree.func u.tree.dur u.tree.kids no_kids
push (kid gap func dur inner more) u = kid gap func dur inner (push more u)

first-suc : (i : ℕ) (kids : Kids) (u : Branch) → slice_get (branches kids) i ≡ Some u
    → first (suc i) kids ≡ push (first i kids) u
unfolding push
first-suc zero no_kids u e = absurd cc
first-suc (suc i) no_kids u e = absurd cc
first-suc zero (kid gap func dur inner more) u e =
    let same : record { gap = gap; tree = record { func = func; dur = dur; kids = inner } } ≡ u = cc in
    subst (λ (v : Branch). kid gap func dur inner no_kids ≡ kid v.gap v.tree.func v.tree.dur v.tree.kids
    no_kids)
    same refl
first-suc (suc i) (kid gap func dur inner more) u e =
    ap (λ (ks : Kids). kid gap func dur inner ks) (first-suc i more u e)

pub first-next : (i : ℕ) (kids : Kids) (u : Branch) → slice_get (branches kids) i ≡ Some u
    → first (i + 1) kids ≡ push (first i kids) u
first-next i kids u e = rw add-one (first-suc i kids u e)

pub total-push : (kids : Kids) (u : Branch) → total (push kids u) ≡ total kids + u.gap + u.tree.dur
unfolding push
total-push no_kids u = omega arith
total-push (kid gap func dur inner more) u = omega (arith, total-push more u)

pub kid_parts-push : (from end : ℕ) (kids : Kids) (u : Branch) → end ≡ from + total kids
    → kid_parts from (push kids u)
    ≡ kid_parts from kids ++ idle end (end + u.gap) ∷ stream_from u.tree (end + u.gap) ∷ []
unfolding push
kid_parts-push from end no_kids u e =
    let same : from ≡ end = omega (arith, e) in
    ap (λ (n : ℕ). idle n (n + u.gap) ∷ stream_from u.tree (n + u.gap) ∷ []) same
kid_parts-push from end (kid gap func dur inner more) u e =
    ap (λ (l : List TrackStream). idle from (from + gap)
    ∷ stream_from (record { func = func; dur = dur; kids = inner }) (from + gap) ∷ l)
    (kid_parts-push (from + gap + dur) end more u (omega (arith, e)))

pub crossings-push : (a b from end : ℕ) (kids : Kids) (u : Branch) → end ≡ from + total kids
    → crossings_below a b from (push kids u) ≡ crossings_below a b from kids
    + cond (is_across a b (end + u.gap) (end + u.gap + u.tree.dur))
    (crossings_below a b (end + u.gap) u.tree.kids + 1) 0
unfolding push
crossings-push a b from end no_kids u e =
    let same : from ≡ end = omega (arith, e) in
    omega (
      arith,
      ap (λ (n : ℕ). cond (is_across a b (n + u.gap) (n + u.gap + u.tree.dur))
          (crossings_below a b (n + u.gap) u.tree.kids + 1) 0) same,
    )
crossings-push a b from end (kid gap func dur inner more) u e =
    omega (arith, crossings-push a b (from + gap + dur) end more u (omega (arith, e)))

-- ---- the first kids are no more than all

pub first-all : (i : ℕ) (kids : Kids) → count kids ≤ i → first i kids ≡ kids
first-all zero no_kids h = refl
first-all (suc i) no_kids h = refl
first-all zero (kid gap func dur inner more) h = absurd (omega (arith, h))
first-all (suc i) (kid gap func dur inner more) h =
    ap (λ (ks : Kids). kid gap func dur inner ks) (first-all i more (omega (arith, h)))

pub first-total : (i : ℕ) (kids : Kids) → total (first i kids) ≤ total kids
first-total zero kids = omega arith
first-total (suc i) no_kids = omega arith
first-total (suc i) (kid gap func dur inner more) = omega (arith, first-total i more)

pub first-calls : (i : ℕ) (kids : Kids) → calls_below (first i kids) ≤ calls_below kids
first-calls zero kids = omega arith
first-calls (suc i) no_kids = omega arith
first-calls (suc i) (kid gap func dur inner more) = omega (arith, first-calls i more)

pub first-timed : (i : ℕ) (kids : Kids) → AreTimed kids → AreTimed (first i kids)
first-timed zero kids timed = tt
first-timed (suc i) no_kids timed = tt
first-timed (suc i) (kid gap func dur inner more) timed = (timed.0, timed.1, first-timed i more timed.2)

pub first-crossings : (a b from i : ℕ) (kids : Kids)
    → crossings_below a b from (first i kids) ≤ crossings_below a b from kids
first-crossings a b from zero kids = omega arith
first-crossings a b from (suc i) no_kids = omega arith
first-crossings a b from (suc i) (kid gap func dur inner more) =
    omega (arith, first-crossings a b (from + gap + dur) i more)

-- ---- the kid at an index

pub timed-at : (i : ℕ) (kids : Kids) (u : Branch) → slice_get (branches kids) i ≡ Some u → AreTimed kids
    → IsTimed u.tree
timed-at zero no_kids u e timed = absurd cc
timed-at (suc i) no_kids u e timed = absurd cc
timed-at zero (kid gap func dur inner more) u e timed =
    let same : record { gap = gap; tree = record { func = func; dur = dur; kids = inner } } ≡ u = cc in
    subst (λ (v : Branch). IsTimed v.tree) same (timed.0, timed.1)
timed-at (suc i) (kid gap func dur inner more) u e timed = timed-at i more u e timed.2

pub calls-at : (i : ℕ) (kids : Kids) (u : Branch) → slice_get (branches kids) i ≡ Some u
    → calls u.tree ≤ calls_below kids
calls-at zero no_kids u e = absurd cc
calls-at (suc i) no_kids u e = absurd cc
calls-at zero (kid gap func dur inner more) u e =
    let same : record { gap = gap; tree = record { func = func; dur = dur; kids = inner } } ≡ u = cc in
    subst (λ (v : Branch). calls v.tree ≤ calls_below (kid gap func dur inner more)) same (omega arith)
calls-at (suc i) (kid gap func dur inner more) u e = omega (arith, calls-at i more u e)

pub total-at : (i : ℕ) (kids : Kids) (u : Branch) → slice_get (branches kids) i ≡ Some u
    → total (first i kids) + u.gap + u.tree.dur ≤ total kids
total-at i kids u e =
    omega (
      arith,
      first-total (i + 1) kids,
      ap total (first-next i kids u e),
      total-push (first i kids) u,
    )

-- ---- all parts of a node

pub parts-behind : (from end : ℕ) (kids : Kids)
    → parts_from from end kids ≡ kid_parts from kids ++ idle (from + total kids) end ∷ []
parts-behind from end no_kids =
    let same : from ≡ from + 0 = omega arith in
    ap (λ (n : ℕ). idle n end ∷ []) same
parts-behind from end (kid gap func dur inner more) =
    let same : from + gap + dur + total more ≡ from + (gap + dur + total more) = omega arith in
    ap (λ (l : List TrackStream). idle from (from + gap)
    ∷ stream_from (record { func = func; dur = dur; kids = inner }) (from + gap) ∷ l)
    (parts-behind (from + gap + dur) end more
    ∙ ap (λ (n : ℕ). kid_parts (from + gap + dur) more ++ idle n end ∷ []) same)
