-- The kids of a tree, in its key.
use Rattle.std.proofs.Common.{◌≡◌, ℕ, ◌<◌, ◌≤◌, zero, suc, List, [], ◌∷◌, length, Some, slice_get, get_or}
use Rattle.std.proofs.Common.{refl, ap, sym, subst, ◌∙◌, arith, length-take}
use Rattle.std.specs.List.{AllZip}
use Rattle.std.proofs.lemmas.List.{get_or-take}
use Rattle.node_key.specs.Branches.{branches}
use Rattle.node_key.specs.Keys.{IsKeyOf, numbered}
use Rattle.node_key.specs.Tree.{Kids, Tree, count, height, height_above, kid, no_kids}
use Rattle.node_key.specs.declared.key.Kid.{Kid}
use Rattle.node_key.specs.declared.key.NodeKey.{NodeKey}
use Rattle.node_key.specs.declared.tree.Branch.{Branch}

-- the kid in the key is this one of the tree's
pub record KidIs (ns : List ℕ) (i : ℕ) (u : Branch) (k : Kid) : Type 0 where
  pub gap : k.gap ≡ u.gap
  pub span : k.span ≡ u.tree.dur
  pub node : slice_get ns i ≡ Some k.node

-- a tree has a kid at each index below their number
pub some_at : (kids : Kids) (i : ℕ) → i < count kids → (u : Branch) × (slice_get (branches kids) i ≡ Some u)
    × (height u.tree < height_above kids)
some_at no_kids i h = absurd (omega (arith, h))
some_at (kid gap func dur inner more) zero h =
    (record { gap = gap; tree = record { func = func; dur = dur; kids = inner } }, refl, omega arith)
some_at (kid gap func dur inner more) (suc i) h =
    let next = some_at more i (omega (arith, h)) in (next.0, next.1, omega (arith, next.2))

pub index_below : (kids : Kids) (i : ℕ) (u : Branch) → slice_get (branches kids) i ≡ Some u → i < count kids
index_below no_kids zero u e = absurd cc
index_below no_kids (suc i) u e = absurd cc
index_below (kid gap func dur inner more) zero u e = omega arith
index_below (kid gap func dur inner more) (suc i) u e = omega (arith, index_below more i u e)

numbered-at : (kids : Kids) (ns : List ℕ) (i : ℕ) (u : Branch) (d : Kid) → length ns ≡ count kids
    → slice_get (branches kids) i ≡ Some u → KidIs ns i u (get_or (numbered kids ns) i d)
numbered-at no_kids ns zero u d e here = absurd cc
numbered-at no_kids ns (suc i) u d e here = absurd cc
numbered-at (kid gap func dur inner more) [] i u d e here = absurd (omega (arith, e))
numbered-at (kid gap func dur inner more) (n ∷ ns) zero u d e here =
    let same : record { gap = gap; tree = record { func = func; dur = dur; kids = inner } } ≡ u = cc in
    record { gap = ap (λ (v : Branch). v.gap) same; span = ap (λ (v : Branch). v.tree.dur) same; node = refl }
numbered-at (kid gap func dur inner more) (n ∷ ns) (suc i) u d e here =
    let next = numbered-at more ns i u d (omega (arith, e)) here in
    record { gap = next.gap; span = next.span; node = next.node }

pub kid_is : (t : Tree) (ns : List ℕ) (key : NodeKey) (i : ℕ) (u : Branch) (d : Kid) → IsKeyOf t ns key
    → slice_get (branches t.kids) i ≡ Some u → KidIs ns i u (get_or key.kids i d)
kid_is t ns key i u d keyed here =
    let h : i < key.len = omega (arith, index_below t.kids i u here, keyed.len) in
    let same : get_or key.kids i d ≡ get_or (numbered t.kids ns) i d =
    sym (get_or-take key.len key.kids i d h) ∙ ap (λ (ks : List Kid). get_or ks i d) keyed.kids in
    subst (λ (k : Kid). KidIs ns i u k) (sym same) (numbered-at t.kids ns i u d keyed.numbers here)

-- a kid is lower
pub lower_at : (kids : Kids) (i : ℕ) (u : Branch) → slice_get (branches kids) i ≡ Some u
    → height u.tree < height_above kids
lower_at no_kids zero u e = absurd cc
lower_at no_kids (suc i) u e = absurd cc
lower_at (kid gap func dur inner more) zero u e =
    let same : record { gap = gap; tree = record { func = func; dur = dur; kids = inner } } ≡ u = cc in
    subst (λ (v : Branch). height v.tree < height_above (kid gap func dur inner more)) same (omega arith)
lower_at (kid gap func dur inner more) (suc i) u e = omega (arith, lower_at more i u e)

-- the key has as many kids as it tells
length-numbered : (kids : Kids) (ns : List ℕ) → length ns ≡ count kids → length (numbered kids ns) ≡ count
    kids
length-numbered no_kids ns e = refl
length-numbered (kid gap func dur inner more) [] e = absurd (omega (arith, e))
length-numbered (kid gap func dur inner more) (n ∷ ns) e =
    omega (arith, length-numbered more ns (omega (arith, e)))

pub kids-long : (t : Tree) (ns : List ℕ) (key : NodeKey) → IsKeyOf t ns key → key.len ≤ length key.kids
kids-long t ns key keyed =
    omega (
      arith,
      length-take key.len key.kids,
      ap (λ (ks : List Kid). length ks) keyed.kids,
      length-numbered t.kids ns keyed.numbers,
      keyed.len,
    )

pub zip_at : {X Y : Type 0} (R : X → Y → Type 0) (xs : List X) (ys : List Y) (i : ℕ) (x : X) (y : Y)
    → AllZip R xs ys → slice_get xs i ≡ Some x → slice_get ys i ≡ Some y → R x y
zip_at R [] ys zero x y all e f = absurd cc
zip_at R [] ys (suc i) x y all e f = absurd cc
zip_at R (x' ∷ xs) [] i x y all e f = absurd all
zip_at {X} {Y} R (x' ∷ xs) (y' ∷ ys) zero x y all e f =
    let same : x' ≡ x = cc in
    let other : y' ≡ y = cc in
    subst (λ (v : Y). R x v) other (subst (λ (v : X). R v y') same all.0)
zip_at R (x' ∷ xs) (y' ∷ ys) (suc i) x y all e f = zip_at R xs ys i x y all.1 e f
