-- Kids in a row that are inside and have one number.
use Rattle.std.proofs.Common.{◌≡◌, ℕ, ◌+◌, ◌<◌, ◌≤◌, Bool, List, [], ◌∷◌, Some, slice_get, get_or, ap, sym}
use Rattle.std.proofs.Common.{subst, false}
use Rattle.std.proofs.Common.{◌∙◌, arith, cond}
use Rattle.std.proofs.lemmas.Option.{get_or_from_slice_get}
use Rattle.node_key.specs.Branches.{branches}
use Rattle.node_key.specs.Events.{stream_from}
use Rattle.node_key.specs.Keys.{IsKeyOf}
use Rattle.node_key.specs.Tree.{Tree}
use Rattle.node_key.specs.declared.key.Kid.{Kid}
use Rattle.node_key.specs.declared.key.NodeKey.{NodeKey}
use Rattle.node_key.specs.declared.tree.Branch.{Branch}
use Rattle.profile_laws.specs.Laws.{ProfileOf}
use Rattle.profile_walk.proofs.Crossings.{inside-across}
use Rattle.profile_walk.proofs.FirstKids.{crossings-push, first-next}
use Rattle.profile_walk.proofs.Fitting.{sums-at}
use Rattle.profile_walk.proofs.KeyKids.{some_at, zip_at}
use Rattle.profile_walk.proofs.Summing.{kid-at}
use Rattle.profile_walk.specs.Crossing.{crossings_below, is_across}
use Rattle.profile_walk.specs.Laws.{ProfileLaws}
use Rattle.profile_walk.specs.Summed.{CanSum, IsAtKid, IsAtRun, IsInside, IsSummed, first}
use Rattle.profile_walk.specs.declared.place.Place.{Place}

-- the next kid in the key is this one of the tree's
pub record KidHere {X : Type 0} (profile : ProfileOf X) (t : Tree) (ns : List ℕ) (key : NodeKey)
    (at a b : ℕ) (place : Place) (sum : X) (next : Kid) : Type 0 where
  pub u : Branch
  pub here : IsAtKid profile t ns key at a b place u sum
  pub gap : next.gap ≡ u.gap
  pub span : next.span ≡ u.tree.dur
  pub node : slice_get ns place.index ≡ Some next.node

pub kid-of : {X : Type 0} {profile : ProfileOf X} {t : Tree} {ns : List ℕ} {key : NodeKey} {at a b : ℕ}
    {place : Place} {sum : X} → IsKeyOf t ns key → CanSum t → IsSummed profile t at a b place sum
    → place.index < key.len → (d : Kid)
    → KidHere profile t ns key at a b place sum (get_or key.kids place.index d)
kid-of {profile = profile} {t} {ns} {key} {at} {a} {b} {place} {sum} keyed sums summed more d =
    let there = some_at t.kids place.index (omega (arith, more, keyed.len)) in
    let here : IsAtKid profile t ns key at a b place there.0 sum = record {
      keyed = keyed;
      sums = sums;
      summed = summed;
      here = there.1;
    } in
    let is = kid-at here d in
    record { u = there.0; here = here; gap = is.gap; span = is.span; node = is.node }

pub kid-here : {X : Type 0} {profile : ProfileOf X} {t : Tree} {ns : List ℕ} {key : NodeKey} {at a b : ℕ}
    {place : Place} {sum : X} → IsKeyOf t ns key → CanSum t → IsSummed profile t at a b place sum
    → place.index < key.len → (next : Kid) → slice_get key.kids place.index ≡ Some next
    → KidHere profile t ns key at a b place sum next
kid-here {profile = profile} {t} {ns} {key} {at} {a} {b} {place} {sum} keyed sums summed more next e =
    subst (KidHere profile t ns key at a b place sum)
    (get_or_from_slice_get key.kids place.index next next e) (kid-of keyed sums summed more next)

-- what the kid adds to the nodes that lie across
pub across-next : {X : Type 0} {profile : ProfileOf X} {t : Tree} {ns : List ℕ} {key : NodeKey} {at a b : ℕ}
    {place : Place} {u : Branch} {sum : X} → IsAtKid profile t ns key at a b place u sum → (i : ℕ)
    → i ≡ place.index + 1
    → crossings_below a b at (first i t.kids) ≡ crossings_below a b at (first place.index t.kids)
    + cond (is_across a b (place.from + u.gap) (place.from + u.gap + u.tree.dur))
    (crossings_below a b (place.from + u.gap) u.tree.kids + 1) 0
across-next {t = t} {at = at} {a} {b} {place} {u} here i e =
    ap (λ (n : ℕ). crossings_below a b at (first n t.kids)) e
    ∙ ap (crossings_below a b at) (first-next place.index t.kids u here.here)
    ∙ crossings-push a b at place.from (first place.index t.kids) u here.summed.from

-- one that lies aside adds none
pub aside-next : {X : Type 0} {profile : ProfileOf X} {t : Tree} {ns : List ℕ} {key : NodeKey} {at a b : ℕ}
    {place : Place} {u : Branch} {sum : X} → IsAtKid profile t ns key at a b place u sum → (i : ℕ)
    → i ≡ place.index + 1 → is_across a b (place.from + u.gap) (place.from + u.gap + u.tree.dur) ≡ false
    → crossings_below a b at (first i t.kids) ≡ crossings_below a b at (first place.index t.kids)
aside-next {a = a} {b} {place} {u} here i e none =
    omega (
      arith,
      across-next here i e,
      ap (λ (v : Bool). cond v (crossings_below a b (place.from + u.gap) u.tree.kids + 1) 0) none,
    )

-- ---- a kid of the row

pub record RunKid {X : Type 0} (profile : ProfileOf X) (t : Tree) (ns : List ℕ) (key : NodeKey)
    (at a b : ℕ) (place : Place) (own sum : X) : Type 0 where
  pub u : Branch
  pub here : IsAtKid profile t ns key at a b place u sum
  pub adds : own ≡ profile (stream_from u.tree (place.from + u.gap) ∷ []) a b
  pub aside : is_across a b (place.from + u.gap) (place.from + u.gap + u.tree.dur) ≡ false

pub run-kid : {X : Type 0} {profile : ProfileOf X} {whole : Tree → X} {bare : ℕ → X} {sum : X → X → X}
    {closing : ℕ → Bool → X → X} {fits is_ordered : X → Type 0} {t : Tree} {ns : List ℕ} {key : NodeKey}
    {at a b : ℕ} {place : Place} {first_kid : Kid} {own begun : X}
    (laws : ProfileLaws profile whole bare sum closing fits is_ordered)
    → IsAtRun profile whole t ns key at a b place first_kid own begun → (behind : Place) (so_far : X) (k :
    Kid)
    → IsSummed profile t at a b behind so_far → IsInside key behind k a b → k.node ≡ first_kid.node
    → RunKid profile t ns key at a b behind own so_far
run-kid {profile = profile} {whole} {t = t} {ns} {key} {at} {a} {b} {first_kid = first_kid} {own} laws run
    behind so_far k summed
    inside same =
    let kid = kid-here run.keyed run.sums summed inside.more k inside.here in
    let u : Branch = kid.u in
    let low : a ≤ behind.from + u.gap = omega (arith, inside.begins, kid.gap) in
    let high : behind.from + u.gap + u.tree.dur < b = omega (arith, inside.ends, kid.gap, kid.span) in
    let is : own ≡ whole u.tree =
    zip_at (λ (n : ℕ) (v : Branch). n ≡ first_kid.node → own ≡ whole v.tree) ns (branches t.kids)
    behind.index k.node u run.wholes kid.node kid.here.here same in
    record {
      u = u;
      here = kid.here;
      adds = is ∙ sym (laws.inside u.tree (behind.from + u.gap) a b
          (sums-at t behind.index u run.sums kid.here.here).timed low high);
      aside = inside-across a b (behind.from + u.gap) (behind.from + u.gap + u.tree.dur) low high;
    }
