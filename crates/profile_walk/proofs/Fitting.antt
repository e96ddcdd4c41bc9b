-- The numbers of the profiles of a tree and of its parts fit.
use Rattle.std.proofs.Common.{◌≡◌, ℕ, ◌+◌, ◌-◌, ◌^◌, ◌==◌, ◌<◌, ◌≤◌, List, [], ◌∷◌, ◌++◌, length, filter}
use Rattle.std.proofs.Common.{sum_by, cond}
use Rattle.std.proofs.Common.{true, false, refl, ap, sym, subst, ◌∙◌, arith, Some, slice_get}
use Rattle.std.proofs.lemmas.List.{length-append}
use Rattle.std.proofs.lemmas.List.Sums.{sum_by-append, sum_by-cons}
use Rattle.std.specs.List.{AllByRecursion}
use Rattle.list_lemmas.proofs.Each.{all_append}
use Rattle.std.proofs.lemmas.List.Elements.{filter-append}
use Rattle.node_key.specs.Branches.{branches}
use Rattle.node_key.specs.Events.{enclosed, events, events_below, stream_from}
use Rattle.node_key.specs.Tree.{Kids, Tree, kid, no_kids, total}
use Rattle.node_key.specs.declared.tree.Branch.{Branch}
use Rattle.profile_laws.specs.Parts.{AreTimed, parts}
use Rattle.profile_laws.specs.Streams.{idle}
use Rattle.profile_laws.proofs.TreesComplete.{complete, complete-tree}
use Rattle.profile_math.specs.Laws.{IsComplete}
use Rattle.profile_walk.proofs.FirstKids.{calls-at, first-calls, first-timed, first-total, parts-behind}
use Rattle.profile_walk.proofs.FirstKids.{timed-at}
use Rattle.profile_laws.specs.Sizes.{FitTogether, enters, lasts}
use Rattle.profile_walk.specs.Calls.{calls, calls_below}
use Rattle.profile_walk.specs.Summed.{CanSum, first, kid_parts}
use Rattle.trace_base.specs.Stream.{is_enter}
use Rattle.trace_base.specs.declared.stream.Event.{Event}
use Rattle.trace_base.specs.declared.stream.Event.TheVariants.{Enter, Leave}
use Rattle.trace_base.specs.declared.stream.TrackStream.{TrackStream}

-- ---- the calls of a tree are those of its stream

abbrev entered : List Event → ℕ
entered es = length (filter is_enter es)

entered-append : (es fs : List Event) → entered (es ++ fs) ≡ entered es + entered fs
entered-append es fs = ap (λ (l : List Event). length l) (filter-append is_enter es fs)
    ∙ length-append (filter is_enter es) (filter is_enter fs)

entered-enclosed : (func start end : ℕ) (es : List Event)
    → entered (enclosed func start end es) ≡ cond (func == 0) 0 1 + entered es
entered-enclosed func start end es =
    elim (func == 0) as (λ v. entered (cond v es (Enter func start ∷ es ++ Leave end ∷ []))
    ≡ cond v 0 1 + entered es) [
      | true ↦ omega arith
      | false ↦ omega (arith, entered-append es (Leave end ∷ []))
    ]

entered-below : (from : ℕ) (kids : Kids) → entered (events_below from kids) ≡ calls_below kids
entered-below from no_kids = refl
entered-below from (kid gap func dur inner more) =
    let first : List Event = enclosed func (from + gap) (from + gap + dur) (events_below (from + gap) inner)
    in
    omega (
      arith,
      entered-append first (events_below (from + gap + dur) more),
      entered-enclosed func (from + gap) (from + gap + dur) (events_below (from + gap) inner),
      entered-below (from + gap) inner,
      entered-below (from + gap + dur) more,
    )

pub enters-tree : (t : Tree) (at : ℕ) → enters (stream_from t at) ≡ calls t
unfolding events
enters-tree t at =
    omega (
      arith,
      entered-enclosed t.func at (at + t.dur) (events_below at t.kids),
      entered-below at t.kids,
    )

-- ---- the sizes of the parts

parts-time : (from : ℕ) (kids : Kids) → sum_by lasts (kid_parts from kids) ≡ total kids
parts-time from no_kids = refl
parts-time from (kid gap func dur inner more) =
    let pause : TrackStream = idle from (from + gap) in
    let t : Tree = record { func = func; dur = dur; kids = inner } in
    let rest : List TrackStream = kid_parts (from + gap + dur) more in
    omega (
      arith,
      sum_by-cons lasts pause (stream_from t (from + gap) ∷ rest),
      sum_by-cons lasts (stream_from t (from + gap)) rest,
      parts-time (from + gap + dur) more,
    )

parts-calls : (from : ℕ) (kids : Kids) → sum_by enters (kid_parts from kids) ≡ calls_below kids
parts-calls from no_kids = refl
parts-calls from (kid gap func dur inner more) =
    let pause : TrackStream = idle from (from + gap) in
    let t : Tree = record { func = func; dur = dur; kids = inner } in
    let rest : List TrackStream = kid_parts (from + gap + dur) more in
    omega (
      arith,
      sum_by-cons enters pause (stream_from t (from + gap) ∷ rest),
      sum_by-cons enters (stream_from t (from + gap)) rest,
      enters-tree t (from + gap),
      parts-calls (from + gap + dur) more,
    )

idle-complete : (from to : ℕ) → from ≤ to → IsComplete (idle from to)
idle-complete from to h = complete (idle from to) (refl, h)

parts-complete : (from : ℕ) (kids : Kids) → AreTimed kids → AllByRecursion IsComplete (kid_parts from kids)
parts-complete from no_kids timed = tt
parts-complete from (kid gap func dur inner more) timed =
    let t : Tree = record { func = func; dur = dur; kids = inner } in (
      idle-complete from (from + gap) (omega arith),
      (complete-tree t (from + gap) (timed.0, timed.1), parts-complete (from + gap + dur) more timed.2),
    )

-- the parts of kids, and a gap
fits-with : (from start end : ℕ) (kids : Kids) → AreTimed kids → start ≤ end
    → total kids + (end - start) < 2 ^ 128 → calls_below kids < 2 ^ 64
    → FitTogether (kid_parts from kids ++ idle start end ∷ [])
fits-with from start end kids timed h small few = record {
  complete = all_append IsComplete (kid_parts from kids) (idle start end ∷ []) (parts-complete from kids
      timed)
      (idle-complete start end h, tt);
  time = omega (
    arith,
    small,
    sum_by-append lasts (kid_parts from kids) (idle start end ∷ []),
    sum_by-cons lasts (idle start end) [],
    parts-time from kids,
  );
  calls = omega (
    arith,
    few,
    sum_by-append enters (kid_parts from kids) (idle start end ∷ []),
    sum_by-cons enters (idle start end) [],
    parts-calls from kids,
  );
}

pub fits-kids : (from : ℕ) (kids : Kids) → AreTimed kids → total kids < 2 ^ 128 → calls_below kids < 2 ^ 64
    → FitTogether (kid_parts from kids)
fits-kids from kids timed small few = record {
  complete = parts-complete from kids timed;
  time = omega (arith, small, parts-time from kids);
  calls = omega (arith, few, parts-calls from kids);
}

-- of the first kids of a tree, and of a gap behind them
pub fits-gap : (t : Tree) (at i start gap : ℕ) → CanSum t → t.dur < 2 ^ 64
    → total (first i t.kids) + gap ≤ t.dur
    → FitTogether (kid_parts at (first i t.kids) ++ idle start (start + gap) ∷ [])
fits-gap t at i start gap sums short within =
    fits-with at start (start + gap) (first i t.kids) (first-timed i t.kids sums.timed.1) (omega arith)
    (omega (arith, within, short)) (omega (arith, first-calls i t.kids, sums.few))

pub fits-first : (t : Tree) (at i : ℕ) → CanSum t → t.dur < 2 ^ 64
    → FitTogether (kid_parts at (first i t.kids))
fits-first t at i sums short =
    fits-kids at (first i t.kids) (first-timed i t.kids sums.timed.1)
    (omega (arith, first-total i t.kids, sums.timed.0, short))
    (omega (arith, first-calls i t.kids, sums.few))

-- of all parts of a tree
pub fits-parts : (t : Tree) (at : ℕ) → CanSum t → t.dur < 2 ^ 64 → FitTogether (parts t at)
fits-parts t at sums short =
    subst FitTogether (sym (parts-behind at (at + t.dur) t.kids))
    (fits-with at (at + total t.kids) (at + t.dur) t.kids sums.timed.1 (omega (arith, sums.timed.0))
    (omega (arith, sums.timed.0, short)) (omega (arith, sums.few)))

-- of the whole tree
pub fits-tree : (t : Tree) (at : ℕ) → CanSum t → t.dur < 2 ^ 64 → FitTogether (stream_from t at ∷ [])
fits-tree t at sums short = record {
  complete = (complete-tree t at sums.timed, tt);
  time = omega (arith, sum_by-cons lasts (stream_from t at) [], short);
  calls = omega (arith, sum_by-cons enters (stream_from t at) [], enters-tree t at, sums.few);
}

-- the tree of each kid
pub sums-at : (t : Tree) (i : ℕ) (u : Branch) → CanSum t → slice_get (branches t.kids) i ≡ Some u → CanSum
    u.tree
sums-at t i u sums here = record {
  timed = timed-at i t.kids u here sums.timed.1;
  few = omega (arith, calls-at i t.kids u here, sums.few);
}
