-- The next kid of a node that can be walked.
use Rattle.std.proofs.Common.{◌≡◌, ℕ, ◌+◌, ◌<◌, ◌≤◌, ◌^◌, Bool, List, [], ◌∷◌, Some, Result, Ok, Err}
use Rattle.std.proofs.Common.{slice_get, get_or}
use Rattle.std.proofs.Common.{ap, sym, subst, ◌∙◌, arith, cond, true, IfOk, inl, inr, ◌⊎◌, ◌++◌, append-nil}
use Rattle.std.proofs.lemmas.Bool.{cases_lt}
use Rattle.std.proofs.lemmas.Option.{get_or_from_slice_get, slice_get-get_or}
use Rattle.std.specs.List.{AllZip}
use Rattle.std.specs.Result.{IsErrAnd}
use Rattle.std.proofs.lemmas.Result.{err_from_is_err_and}
use Rattle.profile_laws.proofs.TreesComplete.{complete-tree}
use Rattle.profile_walk.proofs.Accounts.{between_missed, read_between, read_more, read_then}
use Rattle.profile_walk.proofs.Crossings.{outside-across}
use Rattle.hall_history.specs.Seat.{Seat}
use Rattle.hall_trait.specs.Reach.{Reaching, Source}
use Rattle.hall_trait.specs.View.{Account, with_missed}
use Rattle.node_key.specs.Branches.{branches}
use Rattle.node_key.specs.Events.{stream_from}
use Rattle.node_key.specs.Tree.{Kids, Tree, height, kid, no_kids}
use Rattle.node_key.specs.declared.key.Kid.{Kid}
use Rattle.node_key.specs.declared.key.NodeKey.{NodeKey}
use Rattle.node_key.specs.declared.tree.Branch.{Branch}
use Rattle.profile_laws.specs.Laws.{ProfileOf}
use Rattle.profile_laws.specs.Parts.{AreTimed, parts}
use Rattle.profile_walk.proofs.Fitting.{sums-at}
use Rattle.profile_walk.proofs.KeyKids.{kids-long, lower_at, zip_at}
use Rattle.profile_walk.proofs.Running.{across-next, aside-next, kid-of}
use Rattle.profile_walk.specs.Crossing.{crossings_below, is_across}
use Rattle.profile_walk.specs.Laws.{ProfileLaws}
use Rattle.profile_walk.specs.Calls.{calls_below}
use Rattle.profile_walk.specs.Summed.{CanSum, CanWalk, IsAtKid, IsAtRun, IsSummed, first}
use Rattle.profile_walk.specs.Walks.{ReadsAcross, ReadsBeside}
use Rattle.profile_walk.specs.declared.place.Place.{Place}
use Rattle.trace_base.specs.Flat.{is_within}
use Rattle.trace_base.specs.declared.stream.TrackStream.{TrackStream}
use Rattle.trace_base.specs.declared.memory.Memory.{Memory}

-- the next kid in the key is this one of the tree's, and the seat reaches it
pub record WalkKid {X : Type 0} (profile : ProfileOf X) (reaches : Reaching) (by_what : Source) (t : Tree)
    (ns : List ℕ) (key : NodeKey) (at a b : ℕ) (place : Place) (sum : X) (next : Kid) : Type 0 where
  pub u : Branch
  pub here : IsAtKid profile t ns key at a b place u sum
  pub gap : next.gap ≡ u.gap
  pub span : next.span ≡ u.tree.dur
  pub led : reaches by_what next.node u.tree
  pub sums : CanSum u.tree
  pub found : slice_get key.kids place.index ≡ Some next
  pub lower : height u.tree < key.height

pub walk-kid : {X : Type 0} {profile : ProfileOf X} {seat : Seat} {reaches : Reaching} {by_what : Source}
    {t : Tree} {key : NodeKey} {at a b : ℕ} {place : Place} {sum : X}
    (can : CanWalk seat reaches by_what t key) → IsSummed profile t at a b place sum
    → place.index < key.len → (d : Kid)
    → WalkKid profile reaches by_what t can.read.0 key at a b place sum (get_or key.kids place.index d)
walk-kid {reaches = reaches} {by_what} {t} {key} {place = place} can summed more d =
    let is = kid-of can.read.1 can.sums summed more d in record {
      u = is.u;
      here = is.here;
      gap = is.gap;
      span = is.span;
      led = zip_at (λ (n : ℕ) (v : Branch). reaches by_what n v.tree) can.read.0 (branches t.kids) place.index
          (get_or key.kids place.index d).node is.u can.read.2 is.node is.here.here;
      sums = sums-at t place.index is.u can.sums is.here.here;
      found = slice_get-get_or key.kids place.index d (omega (
        arith,
        kids-long t can.read.0 key can.read.1,
        more,
      ));
      lower = omega (arith, lower_at t.kids place.index is.u is.here.here, can.read.1.height);
    }

-- the kids of this number have the profile that each tree has that the number leads to
pub wholes-by : {X : Type 0} (whole : Tree → X) (own : X) (node : ℕ) (leads : ℕ → Tree → Type 0)
    (ns : List ℕ) (kids : Kids) → AllZip (λ n (v : Branch). leads n v.tree) ns (branches kids) → AreTimed kids
    → calls_below kids < 2 ^ 64 → ((v : Tree) → leads node v → CanSum v → own ≡ whole v)
    → AllZip (λ n (v : Branch). n ≡ node → own ≡ whole v.tree) ns (branches kids)
wholes-by whole own node leads [] no_kids all timed few f = tt
wholes-by whole own node leads (n ∷ ns) no_kids all timed few f = absurd all
wholes-by whole own node leads [] (kid gap func dur inner more) all timed few f = absurd all
wholes-by whole own node leads (n ∷ ns) (kid gap func dur inner more) all timed few f =
    let v : Tree = record { func = func; dur = dur; kids = inner } in (
      λ e. f v (subst (λ (m : ℕ). leads m v) e all.0)
          (record { timed = (timed.0, timed.1); few = omega (arith, few) }),
      wholes-by whole own node leads ns more all.1 timed.2 (omega (arith, few)) f,
    )

-- the profile of a node from just before it begins to just behind its end
pub whole-is : {X : Type 0} {profile : ProfileOf X} {whole : Tree → X} {bare : ℕ → X} {sum : X → X → X}
    {closing : ℕ → Bool → X → X} {fits is_ordered : X → Type 0}
    (laws : ProfileLaws profile whole bare sum closing fits is_ordered)
    (v : Tree) (d : ℕ) (own : X) → CanSum v → d ≡ v.dur → own ≡ profile (stream_from v 0 ∷ []) 0 (d + 1)
    → own ≡ whole v
whole-is {profile = profile} laws v d own sums e is =
    is ∙ ap (λ (n : ℕ). profile (stream_from v 0 ∷ []) 0 (n + 1)) e
    ∙ laws.inside v 0 0 (v.dur + 1) sums.timed (omega arith) (omega arith)

-- ---- a node over its parts

pub closing-fits : {X : Type 0} {profile : ProfileOf X} {whole : Tree → X} {bare : ℕ → X} {sum : X → X → X}
    {closing : ℕ → Bool → X → X} {fits is_ordered : X → Type 0}
    (laws : ProfileLaws profile whole bare sum closing fits is_ordered)
    (t : Tree) (at a b func : ℕ) (begun : Bool) (p : X) → CanSum t → t.dur < 2 ^ 64
    → p ≡ profile (parts t at) a b → func ≡ t.func → begun ≡ is_within a b at → 1 ≤ func
    → closing func begun p ≡ profile (stream_from t at ∷ []) a b
closing-fits {closing = closing} laws t at a b func begun p sums short is e f h =
    ap (λ (n : ℕ). closing n begun p) e ∙ ap (λ (v : Bool). closing t.func v p) f
    ∙ ap (closing t.func (is_within a b at)) is
    ∙ sym (laws.call t at a b sums.timed (omega (arith, h, e)))

pub node-is : {X : Type 0} {profile : ProfileOf X} {whole : Tree → X} {bare : ℕ → X} {sum : X → X → X}
    {closing : ℕ → Bool → X → X} {fits is_ordered : X → Type 0}
    (laws : ProfileLaws profile whole bare sum closing fits is_ordered)
    (t : Tree) (at a b func : ℕ) (begun : Bool) (p q : X) → CanSum t → t.dur < 2 ^ 64
    → p ≡ profile (parts t at) a b → func ≡ t.func → begun ≡ is_within a b at
    → (func ≡ 0 → q ≡ p) → (1 ≤ func → q ≡ closing func begun p)
    → q ≡ profile (stream_from t at ∷ []) a b
node-is laws t at a b func begun p q sums short is e f group call =
    elim (cases_lt 0 func) [
      | inl h ↦ call (omega arith) ∙ closing-fits laws t at a b func begun p sums short is e f (omega arith)
      | inr h ↦
          let none : func ≡ 0 = omega arith in
          group none ∙ is ∙ sym (laws.group t at a b sums.timed (sym e ∙ none))
    ]

-- ---- what is read

-- So many nodes were read. A step on Ok passes so many nodes that lie across.
pub reads_across : (from to : Account) (a b at : ℕ) (t : Tree) (place : Place) (result : Result Place Memory)
    (n k : ℕ) → ReadsBeside from to k
    → IfOk result (λ next. k + crossings_below a b at (first place.index t.kids)
    ≤ crossings_below a b at (first next.index t.kids) + n)
    → k + crossings_below a b at (first place.index t.kids) ≤ crossings_below a b at t.kids + n
    → ReadsAcross from to a b at t place result n
reads_across from to a b at t place (Ok next) n k reads ok err =
    read_between from to k (crossings_below a b at (first place.index t.kids))
    (crossings_below a b at (first next.index t.kids) + n) ok reads
reads_across from to a b at t place (Err e) n k reads ok err =
    read_between from to k (crossings_below a b at (first place.index t.kids)) (crossings_below a b at t.kids
    + n)
    err reads

-- a step that failed
pub reads_failed : (Q : Memory → Type 0) (from to : Account) (a b at : ℕ) (t : Tree) (place : Place)
    (result : Result Place Memory) (n k : ℕ) → IsErrAnd result Q → ReadsBeside from to k
    → k + crossings_below a b at (first place.index t.kids) ≤ crossings_below a b at t.kids + n
    → ReadsAcross from to a b at t place result n
reads_failed Q from to a b at t place result n k is reads err =
    let failed = err_from_is_err_and result is in
    subst (λ (r : Result Place Memory). ReadsAcross from to a b at t place r n) (sym failed.1)
    (read_between from to k (crossings_below a b at (first place.index t.kids))
    (crossings_below a b at t.kids + n) err reads)

-- the kid lies across, and so does what lies across below it
pub across-done : {X : Type 0} {profile : ProfileOf X} {reaches : Reaching} {by_what : Source} {t : Tree}
    {ns : List ℕ} {key : NodeKey} {at a b : ℕ} {place : Place} {sum : X} {next : Kid}
    (it : WalkKid profile reaches by_what t ns key at a b place sum next)
    → is_across a b (place.from + next.gap) (place.from + next.gap + next.span) ≡ true → (i : ℕ)
    → i ≡ place.index + 1
    → crossings_below a b at (first i t.kids) ≡ crossings_below a b at (first place.index t.kids)
    + (crossings_below a b (place.from + next.gap) it.u.tree.kids + 1)
across-done {t = t} {at = at} {a} {b} {place} {next = next} it across i e =
    let of_u = λ (gap span : ℕ). cond (is_across a b (place.from + gap) (place.from + gap + span))
    (crossings_below a b (place.from + gap) it.u.tree.kids + 1) 0 in
    omega (
      arith,
      across-next it.here i e,
      ap (λ (n : ℕ). of_u n it.u.tree.dur) it.gap,
      ap (λ (n : ℕ). of_u next.gap n) it.span,
      ap (λ (v : Bool). cond v (crossings_below a b (place.from + next.gap) it.u.tree.kids + 1) 0) across,
    )

pub lies-aside : {X : Type 0} {profile : ProfileOf X} {reaches : Reaching} {by_what : Source} {t : Tree}
    {ns : List ℕ} {key : NodeKey} {at a b : ℕ} {place : Place} {sum : X} {next : Kid}
    (it : WalkKid profile reaches by_what t ns key at a b place sum next)
    → (place.from + next.gap + next.span < a) ⊎ (b ≤ place.from + next.gap)
    → (place.from + it.u.gap + it.u.tree.dur < a) ⊎ (b ≤ place.from + it.u.gap)
lies-aside it (inl h) = inl (omega (arith, h, it.gap, it.span))
lies-aside it (inr h) = inr (omega (arith, h, it.gap))

-- a kid that lies aside
pub aside-done : {X : Type 0} {profile : ProfileOf X} {reaches : Reaching} {by_what : Source} {t : Tree}
    {ns : List ℕ} {key : NodeKey} {at a b : ℕ} {place : Place} {sum : X} {next : Kid}
    (it : WalkKid profile reaches by_what t ns key at a b place sum next)
    → (place.from + next.gap + next.span < a) ⊎ (b ≤ place.from + next.gap) → (i : ℕ)
    → i ≡ place.index + 1
    → crossings_below a b at (first i t.kids) ≡ crossings_below a b at (first place.index t.kids)
aside-done {a = a} {b} {place} it aside i e =
    aside-next it.here i e
    (outside-across a b (place.from + it.u.gap) (place.from + it.u.gap + it.u.tree.dur) (lies-aside it aside))

-- what lies outside adds nothing
pub outside-skipped : {X : Type 0} {profile : ProfileOf X} {whole : Tree → X} {bare : ℕ → X} {sum : X → X → X}
    {closing : ℕ → Bool → X → X} {fits is_ordered : X → Type 0}
    (laws : ProfileLaws profile whole bare sum closing fits is_ordered)
    (xs : List TrackStream) (u : Tree) (at a b : ℕ) → CanSum u → (at + u.dur < a) ⊎ (b ≤ at)
    → profile (xs ++ stream_from u at ∷ []) a b ≡ profile xs a b
outside-skipped {profile = profile} {sum = sum} laws xs u at a b sums aside =
    laws.streams xs (stream_from u at ∷ []) a b
    ∙ ap (sum (profile xs a b)) (laws.outside (stream_from u at) [] a b (complete-tree u at sums.timed) aside)
    ∙ sym (laws.streams xs [] a b) ∙ ap (λ (l : List TrackStream). profile l a b) (append-nil xs)

-- a row of kids begins
pub run-at : {X : Type 0} {profile : ProfileOf X} {whole : Tree → X} {seat : Seat} {reaches : Reaching}
    {by_what : Source} {t : Tree} {key : NodeKey} {at a b : ℕ} {place : Place} {sum own : X} {next : Kid}
    (can : CanWalk seat reaches by_what t key)
    → WalkKid profile reaches by_what t can.read.0 key at a b place sum next → place.index < key.len
    → a ≤ place.from + next.gap → place.from + next.gap + next.span < b
    → ((v : Tree) → reaches by_what next.node v → CanSum v → own ≡ whole v)
    → IsAtRun profile whole t can.read.0 key at a b place next own sum
run-at {whole = whole} {reaches = reaches} {by_what} {t} {own = own} {next} can it more low high f = record {
  keyed = can.read.1;
  sums = can.sums;
  summed = it.here.summed;
  inside = record { more = more; here = it.found; begins = low; ends = high };
  wholes = wholes-by whole own next.node (reaches by_what) can.read.0 t.kids can.read.2 can.sums.timed.1
      (omega (arith, can.sums.few)) f;
}

-- where the next kid in the key is inside
pub inside-next : (key : NodeKey) (place : Place) (a b : ℕ) (d next : Kid)
    → slice_get key.kids place.index ≡ Some next → a ≤ place.from + next.gap
    → place.from + next.gap + next.span < b
    → (a ≤ place.from + (get_or key.kids place.index d).gap)
    × (place.from + (get_or key.kids place.index d).gap + (get_or key.kids place.index d).span < b)
inside-next key place a b d next e low high =
    subst (λ (k : Kid). (a ≤ place.from + k.gap) × (place.from + k.gap + k.span < b))
    (sym (get_or_from_slice_get key.kids place.index next d e)) (low, high)

-- a node is read, and the nodes below that weren't found
pub unknown-read : (a b c : Account) (n : ℕ) → n ≡ 0 → ReadsBeside a b 1 → ReadsBeside b c n → ReadsBeside a
    c 1
unknown-read a b c n e p q =
    read_more a c (1 + n) 1 (omega (arith, e)) (read_then a b c 1 n p q)

-- a look that found nothing makes up for the node that is read
pub reads_after_miss : (from mid to : Account) (a b at : ℕ) (t : Tree) (place : Place)
    (result : Result Place Memory) → mid ≡ with_missed from → ReadsAcross mid to a b at t place result 1
    → ReadsAcross from to a b at t place result 0
reads_after_miss from mid to a b at t place (Ok next) missed reads =
    between_missed from mid to (crossings_below a b at (first place.index t.kids))
    (crossings_below a b at (first next.index t.kids)) missed reads
reads_after_miss from mid to a b at t place (Err e) missed reads =
    between_missed from mid to (crossings_below a b at (first place.index t.kids)) (crossings_below a b at
    t.kids)
    missed reads
