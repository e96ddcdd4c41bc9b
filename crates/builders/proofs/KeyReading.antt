-- The kids of a key that was read, and the events below it.
use Rattle.std.proofs.Common.{◌≡◌, ℕ, ◌+◌, ◌<◌, ◌≤◌, zero, suc, List, [], ◌∷◌, ◌++◌, length, take, drop, Some}
use Rattle.std.proofs.Common.{slice_get, refl, sym, ap, subst, ◌∙◌, arith, get_or, sum_by, take-append-drop}
use Rattle.std.specs.List.{AllZip}
use Rattle.std.proofs.lemmas.List.{get_or-take}
use Rattle.std.proofs.lemmas.List.Sums.{sum_by-append, sum_by-cons}
use Rattle.node_key.specs.Branches.{branches}
use Rattle.node_key.specs.Events.{events, events_below}
use Rattle.node_key.specs.Keys.{numbered}
use Rattle.node_key.specs.Tree.{Kids, Tree, count, height, height_above, kid, no_kids, total}
use Rattle.node_key.specs.declared.key.Kid.{Kid}
use Rattle.node_key.specs.declared.key.NodeKey.{NodeKey}
use Rattle.node_key.specs.declared.tree.Branch.{Branch}
use Rattle.trace_base.specs.declared.stream.Event.{Event}
use Rattle.hall_trait.specs.Nodes.{ReadsNode}
use Rattle.call_tree.proofs.Below.{Writing, Writing-end, Writing-next, Writing-start, Writing-step}

-- what is read of the kid at an index: its branch, and that its number leads to its tree
pub record KidRead (leads : ℕ → Tree → Type 0) (t : Tree) (key : NodeKey) (i : ℕ) (k : Kid) : Type 0 where
  pub branch : Branch
  pub here : slice_get (branches t.kids) i ≡ Some branch
  pub gap : k.gap ≡ branch.gap
  pub span : k.span ≡ branch.tree.dur
  pub led : leads k.node branch.tree
  pub lower : height branch.tree < key.height

kid_at : (leads : ℕ → Tree → Type 0) (kids : Kids) (ns : List ℕ) (i : ℕ) (d : Kid) → i < count kids
    → length ns ≡ count kids → AllZip (λ n (b : Branch). leads n b.tree) ns (branches kids)
    → (b : Branch) × (n : ℕ) × (slice_get (branches kids) i ≡ Some b)
    × (get_or (numbered kids ns) i d ≡ record { gap = b.gap; span = b.tree.dur; node = n }) × leads n b.tree
    × (height b.tree < height_above kids)
kid_at leads no_kids ns i d h e all = absurd (omega (arith, h))
kid_at leads (kid gap func dur inner more) [] i d h e all = absurd (omega (arith, e))
kid_at leads (kid gap func dur inner more) (n ∷ ns) zero d h e all = (
  record { gap = gap; tree = record { func = func; dur = dur; kids = inner } },
  n,
  refl,
  refl,
  all.0,
  omega arith,
)
kid_at leads (kid gap func dur inner more) (n ∷ ns) (suc i) d h e all =
    let next = kid_at leads more ns i d (omega (arith, h)) (omega (arith, e)) all.1 in
    (next.0, next.1, next.2, next.3, next.4, omega (arith, next.5))

pub kid_read : (leads : ℕ → Tree → Type 0) (t : Tree) (key : NodeKey) (i : ℕ) (d : Kid) → ReadsNode leads t
    key
    → i < key.len → KidRead leads t key i (get_or key.kids i d)
kid_read leads t key i d r h =
    let there = kid_at leads t.kids r.0 i d (omega (arith, h, r.1.len)) r.1.numbers r.2 in
    let same : get_or key.kids i d ≡ record { gap = there.0.gap; span = there.0.tree.dur; node = there.1 } =
    sym (get_or-take key.len key.kids i d h) ∙ ap (λ (ks : List Kid). get_or ks i d) r.1.kids ∙ there.3 in
    record {
      branch = there.0;
      here = there.2;
      gap = ap (λ (k : Kid). k.gap) same;
      span = ap (λ (k : Kid). k.span) same;
      led = subst (λ (n : ℕ). leads n there.0.tree) (sym (ap (λ (k : Kid). k.node) same)) there.4;
      lower = omega (arith, there.5, r.1.height);
    }

-- ---- the kids end when their node does

total-numbered : (kids : Kids) (ns : List ℕ) → length ns ≡ count kids
    → sum_by (λ (k : Kid). k.gap + k.span) (numbered kids ns) ≡ total kids
total-numbered no_kids ns e = refl
total-numbered (kid gap func dur inner more) [] e = absurd (omega (arith, e))
total-numbered (kid gap func dur inner more) (n ∷ ns) e =
    omega (
      arith,
      sum_by-cons (λ (k : Kid). k.gap + k.span) (record { gap = gap; span = dur; node = n })
          (numbered more ns),
      total-numbered more ns (omega (arith, e)),
    )

total-read : (leads : ℕ → Tree → Type 0) (t : Tree) (key : NodeKey) → ReadsNode leads t key
    → sum_by (λ (k : Kid). k.gap + k.span) key.kids ≤ key.dur → total t.kids ≤ t.dur
total-read leads t key r within =
    let f : Kid → ℕ = λ k. k.gap + k.span in
    omega (
      arith,
      within,
      ap (sum_by f) (take-append-drop key.len key.kids),
      sum_by-append f (take key.len key.kids) (drop key.len key.kids),
      ap (sum_by f) r.1.kids,
      total-numbered t.kids r.0 r.1.numbers,
      r.1.dur,
    )

-- ---- the events so far and those of the kids that are left

pub record ReadingKids (leads now : ℕ → Tree → Type 0) (key : NodeKey) (at : ℕ) (begun so_far : List Event)
    (from i : ℕ) : Type 0 where
  pub written : (t : Tree) → ReadsNode leads t key
      → Writing t.kids (at + t.dur) (begun ++ events_below at t.kids) so_far from i
  pub kept : (m : ℕ) (t : Tree) → leads m t → now m t

pub ReadingKids-start : (leads : ℕ → Tree → Type 0) (key : NodeKey) (at : ℕ) (begun : List Event)
    → sum_by (λ (k : Kid). k.gap + k.span) key.kids ≤ key.dur
    → ReadingKids leads leads key at begun begun at 0
ReadingKids-start leads key at begun within = record {
  written = λ t r. Writing-start t.kids at (at + t.dur) begun
      (omega (arith, total-read leads t key r within));
  kept = λ m t l. l;
}

-- where the next kid lies
pub ReadingKids-next : (leads now : ℕ → Tree → Type 0) (key : NodeKey) (at : ℕ) (begun so_far : List Event)
    (from i : ℕ) (k : Kid) (t : Tree) → ReadingKids leads now key at begun so_far from i
    → ReadsNode leads t key → KidRead leads t key i k → from + k.gap + k.span ≤ at + key.dur
ReadingKids-next leads now key at begun so_far from i k t r reads here =
    omega (
      arith,
      Writing-next t.kids (at + t.dur) (begun ++ events_below at t.kids) so_far from i here.branch
          (r.written t reads) here.here,
      here.gap,
      here.span,
      reads.1.dur,
    )

pub ReadingKids-step : (leads now read after : ℕ → Tree → Type 0) (key below : NodeKey) (at : ℕ)
    (begun so_far so_far' : List Event) (from from' i : ℕ) (k : Kid)
    → ReadingKids leads now key at begun so_far from i
    → ((t : Tree) → ReadsNode leads t key → KidRead leads t key i k)
    → ((t : Tree) → now k.node t → ReadsNode read t below)
    → ((t : Tree) → ReadsNode read t below → so_far' ≡ so_far ++ events t (from + k.gap))
    → from' ≡ from + k.gap + k.span
    → ((m : ℕ) (t : Tree) → now m t → read m t) → ((m : ℕ) (t : Tree) → read m t → after m t)
    → ReadingKids leads after key at begun so_far' from' (i + 1)
ReadingKids-step leads now read after key below at begun so_far so_far' from from' i k r kids reads adds is
    kept kept'
    = record {
      written = λ t whole.
          let here = kids t whole in
          let added : so_far' ≡ so_far ++ events here.branch.tree (from + here.branch.gap) =
          adds here.branch.tree (reads here.branch.tree (r.kept k.node here.branch.tree here.led))
          ∙ ap (λ (n : ℕ). so_far ++ events here.branch.tree (from + n)) here.gap in
          let ends : from' ≡ from + here.branch.gap + here.branch.tree.dur = omega
          (arith, is, here.gap, here.span)
          in
          Writing-step t.kids (at + t.dur) (begun ++ events_below at t.kids) so_far so_far' from from' i
          here.branch (r.written t whole) here.here added ends;
      kept = λ m t l. kept' m t (kept m t (r.kept m t l));
    }

pub ReadingKids-end : (leads now : ℕ → Tree → Type 0) (key : NodeKey) (at : ℕ) (begun so_far : List Event)
    (from i : ℕ) (t : Tree) → ReadingKids leads now key at begun so_far from i → ReadsNode leads t key
    → key.len ≤ i → so_far ≡ begun ++ events_below at t.kids
ReadingKids-end leads now key at begun so_far from i t r reads all =
    Writing-end t.kids (at + t.dur) (begun ++ events_below at t.kids) so_far from i (r.written t reads)
    (omega (arith, all, reads.1.len))
