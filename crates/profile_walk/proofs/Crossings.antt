-- How many nodes lie across the ends of an interval.
use Rattle.std.proofs.Common.{◌≡◌, ℕ, ◌+◌, ◌*◌, ◌<◌, ◌≤◌, Bool, true, false, cond, nat_le, nat_lt, ◌&&◌}
use Rattle.std.proofs.Common.{refl, ap, arith, inl, inr, ◌⊎◌}
use Rattle.std.proofs.lemmas.Bool.{cases_Bool, cases_lt}
use Rattle.list_lemmas.proofs.Booleans.{cond-le}
use Rattle.profile_laws.specs.Parts.{AreTimed, IsTimed}
use Rattle.std.proofs.lemmas.Bool.Decides.{nat_tests}
use Rattle.node_key.specs.Tree.{Kids, Tree, height, height_above, kid, no_kids, total}
use Rattle.profile_walk.specs.Crossing.{crossings, crossings_below, is_across}

-- the moment lies behind the start, and not behind the end
abbrev holds : (m start end : ℕ) → Bool
holds m start end = nat_lt start m && nat_le m end

-- the nodes that hold the moment, among kids and below those that do
abbrev holding : (m from : ℕ) → Kids → ℕ
holding m from no_kids = 0
holding m from (kid gap func dur inner more) =
    cond (holds m (from + gap) (from + gap + dur)) (holding m (from + gap) inner + 1) 0
    + holding m (from + gap + dur) more

-- none begins before the moment
holding-none : (m from : ℕ) (kids : Kids) → m ≤ from → holding m from kids ≡ 0
holding-none m from no_kids h = refl
holding-none m from (kid gap func dur inner more) h =
    let none : holds m (from + gap) (from + gap + dur) ≡ false = grind (arith, nat_tests) in
    omega (
      arith,
      ap (λ (v : Bool). cond v (holding m (from + gap) inner + 1) 0) none,
      holding-none m (from + gap + dur) more (omega arith),
    )

-- on each level one at most
holding-few : (m from : ℕ) (kids : Kids) → holding m from kids ≤ height_above kids
holding-few m from no_kids = omega arith
holding-few m from (kid gap func dur inner more) =
    elim (cases_Bool (holds m (from + gap) (from + gap + dur))) [
      | inl e ↦
          let ends : m ≤ from + gap + dur = grind (arith, nat_tests) in
          omega (
            arith,
            ap (λ (v : Bool). cond v (holding m (from + gap) inner + 1) 0) e,
            holding-none m (from + gap + dur) more ends,
            holding-few m (from + gap) inner,
          )
      | inr e ↦ omega (
        arith,
        ap (λ (v : Bool). cond v (holding m (from + gap) inner + 1) 0) e,
        holding-few m (from + gap + dur) more,
      )
    ]

-- what lies across an end of the interval holds that end
across-holds : (a b start end : ℕ) → start ≤ end → is_across a b start end ≡ true
    → (holds a start end ≡ true) ⊎ (holds b start end ≡ true)
across-holds a b start end h e =
    elim (cases_Bool (holds a start end)) [
      | inl one ↦ inl one
      | inr one ↦
          elim (cases_Bool (holds b start end)) [
            | inl other ↦ inr other
            | inr other ↦ absurd (grind (arith, nat_tests))
          ]
    ]

-- what is inside isn't across
pub inside-across : (a b start end : ℕ) → a ≤ start → end < b → is_across a b start end ≡ false
inside-across a b start end low high = grind (arith, nat_tests)

-- nor is what is outside
pub outside-across : (a b start end : ℕ) → (end < a) ⊎ (b ≤ start) → is_across a b start end ≡ false
outside-across a b start end (inl h) = grind (arith, nat_tests)
outside-across a b start end (inr h) = grind (arith, nat_tests)

-- none ends at the moment or behind it
holding-late : (m from : ℕ) (kids : Kids) → AreTimed kids → from + total kids < m → holding m from kids ≡ 0
holding-late m from no_kids timed h = refl
holding-late m from (kid gap func dur inner more) timed h =
    let none : holds m (from + gap) (from + gap + dur) ≡ false = grind (arith, nat_tests) in
    omega (
      arith,
      ap (λ (v : Bool). cond v (holding m (from + gap) inner + 1) 0) none,
      holding-late m (from + gap + dur) more timed.2 (omega (arith, h)),
    )

-- what a node has: no fewer than its kids, and one more where it holds the moment
holding-node : (m start dur : ℕ) (inner : Kids) → AreTimed inner → total inner ≤ dur
    → holding m start inner ≤ cond (holds m start (start + dur)) (holding m start inner + 1) 0
holding-node m start dur inner timed h =
    elim (cases_Bool (holds m start (start + dur))) [
      | inl e ↦ omega (arith, ap (λ (v : Bool). cond v (holding m start inner + 1) 0) e)
      | inr e ↦
          elim (cases_lt start m) [
            | inl high ↦
                let late : start + dur < m = grind (arith, nat_tests) in
                omega (arith, holding-late m start inner timed (omega arith))
            | inr low ↦ omega (arith, holding-none m start inner low)
          ]
    ]

across-few : (a b from : ℕ) (kids : Kids) → AreTimed kids
    → crossings_below a b from kids ≤ holding a from kids + holding b from kids
across-few a b from no_kids timed = omega arith
across-few a b from (kid gap func dur inner more) timed =
    let rest = across-few a b (from + gap + dur) more timed.2 in
    let below = across-few a b (from + gap) inner timed.1 in
    let of_a = holding-node a (from + gap) dur inner timed.1 timed.0 in
    let of_b = holding-node b (from + gap) dur inner timed.1 timed.0 in
    let one = λ (m : ℕ) (e : holds m (from + gap) (from + gap + dur) ≡ true).
    ap (λ (v : Bool). cond v (holding m (from + gap) inner + 1) 0) e in
    let this = λ (w : Bool) (e : is_across a b (from + gap) (from + gap + dur) ≡ w).
    ap (λ (v : Bool). cond v (crossings_below a b (from + gap) inner + 1) 0) e in
    elim (cases_Bool (is_across a b (from + gap) (from + gap + dur))) [
      | inr e ↦ omega (arith, this false e, rest)
      | inl e ↦
          elim (across-holds a b (from + gap) (from + gap + dur) (omega arith) e) [
            | inl at_a ↦ omega (arith, this true e, rest, below, of_b, one a at_a)
            | inr at_b ↦ omega (arith, this true e, rest, below, of_a, one b at_b)
          ]
    ]

-- below a node, at most two on each level
pub crossings_below-few : (a b from : ℕ) (kids : Kids) → AreTimed kids
    → crossings_below a b from kids ≤ 2 * height_above kids
crossings_below-few a b from kids timed =
    omega (arith, across-few a b from kids timed, holding-few a from kids, holding-few b from kids)

-- at most two on each level of a tree
pub crossings-few : (a b at : ℕ) (t : Tree) → IsTimed t → crossings a b at t ≤ 2 * (height t + 1)
crossings-few a b at t timed =
    omega (
      arith,
      crossings_below-few a b at t.kids timed.1,
      cond-le (is_across a b at (at + t.dur)) (crossings_below a b at t.kids + 1)
          (crossings_below a b at t.kids + 1) (omega arith),
    )

-- among kids within the interval there is none
pub crossings-none : (a b from : ℕ) (kids : Kids) → a ≤ from → from + total kids < b
    → crossings_below a b from kids ≡ 0
crossings-none a b from no_kids low high = refl
crossings-none a b from (kid gap func dur inner more) low high =
    let none : is_across a b (from + gap) (from + gap + dur) ≡ false = inside-across a b (from + gap)
    (from + gap + dur) (omega arith) (omega (arith, high)) in
    omega (
      arith,
      ap (λ (v : Bool). cond v (crossings_below a b (from + gap) inner + 1) 0) none,
      crossings-none a b (from + gap + dur) more (omega arith) (omega (arith, high)),
    )
