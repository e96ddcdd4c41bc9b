-- Sums of the profiles of streams, one more at a time.
use Rattle.std.proofs.Common.{◌≡◌, ℕ, ◌+◌, ◌-◌, ◌<◌, ◌≤◌, Bool, List, [], ◌∷◌, ◌++◌, min, max, ap, sym}
use Rattle.std.proofs.Common.{subst, ◌∙◌, arith, get_or, append_assoc}
use Rattle.node_key.specs.Events.{stream_from}
use Rattle.node_key.specs.Tree.{Kids, Tree, count, total}
use Rattle.node_key.specs.declared.key.Kid.{Kid}
use Rattle.node_key.specs.declared.key.NodeKey.{NodeKey}
use Rattle.node_key.specs.declared.tree.Branch.{Branch}
use Rattle.profile_laws.specs.Laws.{ProfileOf}
use Rattle.profile_laws.specs.Parts.{parts}
use Rattle.profile_laws.specs.Streams.{idle}
use Rattle.profile_walk.proofs.FirstKids.{first-all, first-next, kid_parts-push, parts-behind}
use Rattle.profile_walk.proofs.FirstKids.{total-at, total-push}
use Rattle.profile_walk.proofs.Fitting.{fits-first, fits-gap}
use Rattle.profile_walk.proofs.KeyKids.{KidIs, index_below, kid_is}
use Rattle.profile_walk.specs.Laws.{ProfileLaws}
use Rattle.profile_laws.specs.Sizes.{FitTogether}
use Rattle.profile_walk.specs.Summed.{IsAtKid, IsSummed, first, kid_parts}
use Rattle.profile_walk.specs.declared.place.Place.{Place}
use Rattle.trace_base.specs.declared.limits.TheConstants.{MAX_TIME}
use Rattle.trace_base.specs.declared.stream.TrackStream.{TrackStream}

-- ---- of any streams

pub is-ordered : {X : Type 0} {profile : ProfileOf X} {whole : Tree → X} {bare : ℕ → X} {sum : X → X → X}
    {closing : ℕ → Bool → X → X} {fits is_ordered : X → Type 0}
    (laws : ProfileLaws profile whole bare sum closing fits is_ordered)
    (xs : List TrackStream) (a b : ℕ) (p : X) → p ≡ profile xs a b → is_ordered p
is-ordered {is_ordered = is_ordered} laws xs a b p e = subst is_ordered (sym e) (laws.ordered xs a b)

pub sum-two : {X : Type 0} {profile : ProfileOf X} {whole : Tree → X} {bare : ℕ → X} {sum : X → X → X}
    {closing : ℕ → Bool → X → X} {fits is_ordered : X → Type 0}
    (laws : ProfileLaws profile whole bare sum closing fits is_ordered)
    (xs ys : List TrackStream) (a b : ℕ) (p q : X) → p ≡ profile xs a b → q ≡ profile ys a b
    → sum p q ≡ profile (xs ++ ys) a b
sum-two {X} {sum = sum} laws xs ys a b p q e f =
    ap (λ (r : X). sum r q) e ∙ ap (sum _) f ∙ sym (laws.streams xs ys a b)

pub fit-two : {X : Type 0} {profile : ProfileOf X} {whole : Tree → X} {bare : ℕ → X} {sum : X → X → X}
    {closing : ℕ → Bool → X → X} {fits is_ordered : X → Type 0}
    (laws : ProfileLaws profile whole bare sum closing fits is_ordered)
    (xs ys : List TrackStream) (a b : ℕ) (p q : X) → p ≡ profile xs a b → q ≡ profile ys a b
    → FitTogether (xs ++ ys) → fits (sum p q)
fit-two {fits = fits} laws xs ys a b p q e f fit =
    subst fits (sym (sum-two laws xs ys a b p q e f)) (laws.fit (xs ++ ys) a b fit)

pub bare-is : {X : Type 0} {profile : ProfileOf X} {whole : Tree → X} {bare : ℕ → X} {sum : X → X → X}
    {closing : ℕ → Bool → X → X} {fits is_ordered : X → Type 0}
    (laws : ProfileLaws profile whole bare sum closing fits is_ordered)
    (from to to' a b time : ℕ) → to ≡ to' → time ≡ min to b - max from a
    → bare time ≡ profile (idle from to' ∷ []) a b
bare-is {bare = bare} laws from to to' a b time same e =
    ap bare (e ∙ ap (λ (n : ℕ). min n b - max from a) same) ∙ sym (laws.idle from to' a b)

-- ---- at a kid

pub kid-at : {X : Type 0} {profile : ProfileOf X} {t : Tree} {ns : List ℕ} {key : NodeKey} {at a b : ℕ}
    {place : Place} {u : Branch} {p : X} → IsAtKid profile t ns key at a b place u p → (d : Kid)
    → KidIs ns place.index u (get_or key.kids place.index d)
kid-at {t = t} {ns} {key} {place = place} {u} here d = kid_is t ns key place.index u d here.keyed here.here

pub kid-below : {X : Type 0} {profile : ProfileOf X} {t : Tree} {ns : List ℕ} {key : NodeKey} {at a b : ℕ}
    {place : Place} {u : Branch} {p : X} → IsAtKid profile t ns key at a b place u p
    → place.index < key.len
kid-below {t = t} {place = place} {u} here =
    omega (arith, index_below t.kids place.index u here.here, here.keyed.len)

pub kid-ends : {X : Type 0} {profile : ProfileOf X} {t : Tree} {ns : List ℕ} {key : NodeKey} {at a b : ℕ}
    {place : Place} {u : Branch} {p : X} → IsAtKid profile t ns key at a b place u p
    → place.from + u.gap + u.tree.dur ≤ MAX_TIME
kid-ends {t = t} {place = place} {u} here =
    omega (
      arith,
      total-at place.index t.kids u here.here,
      here.sums.timed.0,
      here.summed.from,
      here.summed.in_time,
    )

pub gap-fits : {X : Type 0} {profile : ProfileOf X} {t : Tree} {ns : List ℕ} {key : NodeKey} {at a b : ℕ}
    {place : Place} {u : Branch} {p : X} → IsAtKid profile t ns key at a b place u p
    → FitTogether (kid_parts at (first place.index t.kids) ++ idle place.from (place.from + u.gap) ∷ [])
gap-fits {t = t} {at = at} {place = place} {u} here =
    fits-gap t at place.index place.from u.gap here.sums (omega (arith, here.summed.in_time))
    (omega (arith, total-at place.index t.kids u here.here, here.sums.timed.0))

-- the parts after one more kid
pub parts-next : {X : Type 0} {profile : ProfileOf X} {t : Tree} {ns : List ℕ} {key : NodeKey} {at a b : ℕ}
    {place : Place} {u : Branch} {p : X} → IsAtKid profile t ns key at a b place u p
    → kid_parts at (first (place.index + 1) t.kids)
    ≡ (kid_parts at (first place.index t.kids) ++ idle place.from (place.from + u.gap) ∷ [])
    ++ stream_from u.tree (place.from + u.gap) ∷ []
parts-next {t = t} {at = at} {place = place} {u} here =
    ap (kid_parts at) (first-next place.index t.kids u here.here)
    ∙ kid_parts-push at place.from (first place.index t.kids) u here.summed.from
    ∙ sym (append_assoc (kid_parts at (first place.index t.kids))
    (idle place.from (place.from + u.gap) ∷ []) (stream_from u.tree (place.from + u.gap) ∷ []))

pub kid-fits : {X : Type 0} {profile : ProfileOf X} {t : Tree} {ns : List ℕ} {key : NodeKey} {at a b : ℕ}
    {place : Place} {u : Branch} {p : X} → IsAtKid profile t ns key at a b place u p
    → FitTogether ((kid_parts at (first place.index t.kids) ++ idle place.from (place.from + u.gap) ∷ [])
    ++ stream_from u.tree (place.from + u.gap) ∷ [])
kid-fits {t = t} {at = at} {place = place} here =
    subst FitTogether (parts-next here)
    (fits-first t at (place.index + 1) here.sums (omega (arith, here.summed.in_time)))

-- behind the kid
pub summed-next : {X : Type 0} {profile : ProfileOf X} {t : Tree} {ns : List ℕ} {key : NodeKey} {at a b : ℕ}
    {place : Place} {u : Branch} {p : X} → IsAtKid profile t ns key at a b place u p → (next : Place) (q : X)
    → next.index ≡ place.index + 1 → next.from ≡ place.from + u.gap + u.tree.dur
    → q ≡ profile ((kid_parts at (first place.index t.kids) ++ idle place.from (place.from + u.gap) ∷ [])
    ++ stream_from u.tree (place.from + u.gap) ∷ []) a b
    → IsSummed profile t at a b next q
summed-next {profile = profile} {t} {at = at} {a} {b} {place} {u} here next q i f e = record {
  in_time = here.summed.in_time;
  within = omega (arith, i, index_below t.kids place.index u here.here);
  from = omega (
    arith,
    f,
    here.summed.from,
    ap (λ (n : ℕ). total (first n t.kids)) i,
    ap total (first-next place.index t.kids u here.here),
    total-push (first place.index t.kids) u,
  );
  is = e ∙ ap (λ (l : List TrackStream). profile l a b) (sym (parts-next here))
      ∙ ap (λ (n : ℕ). profile (kid_parts at (first n t.kids)) a b) (sym i);
}

-- all kids with the gaps before them, and the time behind the last
pub parts-end : (t : Tree) (at i from : ℕ) → count t.kids ≤ i → from ≡ at + total (first i t.kids)
    → parts t at ≡ kid_parts at (first i t.kids) ++ idle from (at + t.dur) ∷ []
parts-end t at i from h e =
    parts-behind at (at + t.dur) t.kids
    ∙ ap (λ (ks : Kids). kid_parts at ks ++ idle (at + total ks) (at + t.dur) ∷ [])
    (sym (first-all i t.kids h))
    ∙ ap (λ (n : ℕ). kid_parts at (first i t.kids) ++ idle n (at + t.dur) ∷ []) (sym e)
