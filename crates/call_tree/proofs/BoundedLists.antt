-- A list under way to its bounded list.
use Rattle.std.proofs.Common.{◌≡◌, ℕ, ◌+◌, ◌-◌, ◌^◌, ◌<◌, ◌≤◌, zero, suc, List, length, refl, sym, ◌∙◌, arith}
use Rattle.std.proofs.Common.{All}
use Rattle.std.proofs.lemmas.List.Elements.{All-weaker}
use Rattle.node_key.specs.Tree.{height}
use Rattle.node_key.specs.Items.{FitBetween}
use Rattle.node_key.specs.declared.item.Item.{Item}
use Rattle.node_key.specs.declared.limits.TheConstants.{HEIGHT_BOUND, MAX_HEIGHT, MAX_KIDS}
use Rattle.trace_base.specs.declared.limits.TheConstants.{MAX_TIME}
use Rattle.node_key.specs.Bound.{grouped, bound}
use Rattle.call_tree.proofs.Chunks.{bound-more, length-grouped}
use Rattle.call_tree.proofs.Fits.{Low, Low-weaker, Low-grouped, FitBetween-grouped, eights}

-- The list has the bounded list of all items, lies within the greatest time, and can be grouped k times more.
pub record Bounding (all now : List Item) : Type 0 where
  pub same : bound now ≡ bound all
  pub placed : FitBetween 0 MAX_TIME now
  pub levels : (k : ℕ) × (length now ≤ eights k) × Low k 2061 now

pub Bounding-start : (all : List Item) → FitBetween 0 MAX_TIME all
    → All (λ i. height i.tree ≤ MAX_HEIGHT - MAX_KIDS) all
    → length all < 2 ^ 64 → Bounding all all
Bounding-start all placed low short = record {
  same = refl;
  placed = placed;
  levels = (
    21,
    omega arith,
    All-weaker (λ (i : Item). height i.tree ≤ MAX_HEIGHT - MAX_KIDS) (λ (i : Item). height i.tree + 21 ≤ 2061)
        (λ i h. omega arith) all low,
  );
}

pub Bounding-low : (all now : List Item) → Bounding all now → All (λ i. height i.tree < HEIGHT_BOUND) now
Bounding-low all now b =
    All-weaker (λ (i : Item). height i.tree + b.levels.0 ≤ 2061) (λ (i : Item). height i.tree < HEIGHT_BOUND)
    (λ i h. omega arith) now b.levels.2

lower : (k : ℕ) (now : List Item) → 8 < length now → length now ≤ eights k → Low k 2061 now
    → (j : ℕ) × (length (grouped now) ≤ eights j) × Low j 2061 (grouped now)
lower zero now more few low = absurd (omega arith)
lower (suc k) now more few low = (
  k,
  omega (arith, length-grouped now, few),
  Low-grouped k 2061 now
      (Low-weaker (suc k) (k + 1) 2061 2061 now (λ h p. omega arith) low),
)

pub Bounding-more : (all now : List Item) → 8 < length now → Bounding all now → Bounding all (grouped now)
Bounding-more all now more b = record {
  same = sym (bound-more now more) ∙ b.same;
  placed = FitBetween-grouped now 0 MAX_TIME b.placed;
  levels = lower b.levels.0 now more b.levels.1 b.levels.2;
}
