use Rattle.std.proofs.Common.{◌<◌, ◌∙◌, length, set, subst, sym, ap, rules, arith}
use Rattle.profile_math.proofs.MergeSteps.{writes-less, writes-equal, writes-greater, merges-end}
use Rattle.profile_math.proofs.MergeSteps.{inside-less, inside-equal}
use Rattle.profile_math.proofs.merging.merge_from.Goals as goal
use Rattle.profile_math.proofs.merging.merge_from.Goals.{in-Less, in-Equal, in-Greater}

pub bounds-as_slice-at : goal.bounds-as_slice-at
bounds-as_slice-at g c = subst (λ ws. c.loop-next.at < length ws)
    (c.as_slice.ensures ∙ sym c.as_slice-in-Less.ensures)
    (inside-less g.R.Summand.place _ _ _ c.in-Less.ensures)

pub overflow_add-at : goal.overflow_add-at
overflow_add-at g c = let inside : c.loop-next.at < length c.as_slice.result.now =
    inside-less g.R.Summand.place _ _ _ c.in-Less.ensures in search rules

pub overflow_add-at-in-Equal : goal.overflow_add-at-in-Equal
overflow_add-at-in-Equal g c = let inside : c.loop-next.at < length c.as_slice.result.now =
    inside-equal g.R.Summand.place _ _ _ c.in-Equal.ensures in search rules

pub set-requires : goal.set-requires
set-requires g c = (writes-less g.R.Summand.place g.R.Summand.plus _ _ _ _ _ _ _ _ _ _ c.loop-next.invariant
    c.as_slice.ensures c.as_slice-in-Less.ensures c.loop-next-test.true c.index-others-next.is
    c.in-Less.ensures
    c.index-as_slice-at.is).1

pub bounds-as_slice-at-in-Equal : goal.bounds-as_slice-at-in-Equal
bounds-as_slice-at-in-Equal g c = subst (λ ws. c.loop-next.at < length ws)
    (c.as_slice.ensures ∙ sym c.as_slice-in-Equal.ensures)
    (inside-equal g.R.Summand.place _ _ _ c.in-Equal.ensures)

pub add-requires : goal.add-requires
add-requires g c = (writes-equal g.R.Summand.fits g.R.Summand.place g.R.Summand.plus _ _ _ _ _ _ _ _ _ _
    c.requires.fits c.loop-next.invariant c.as_slice.ensures c.as_slice-in-Equal.ensures c.loop-next-test.true
    c.index-others-next.is c.in-Equal.ensures c.index-as_slice-at-in-Equal.is).2

pub set-requires-in-Equal : goal.set-requires-in-Equal
set-requires-in-Equal g c = (writes-equal g.R.Summand.fits g.R.Summand.place g.R.Summand.plus _ _ _ _ _ _ _ _
    _ _
    c.requires.fits c.loop-next.invariant c.as_slice.ensures c.as_slice-in-Equal.ensures c.loop-next-test.true
    c.index-others-next.is c.in-Equal.ensures c.index-as_slice-at-in-Equal.is).1

pub set-requires-in-Greater : goal.set-requires-in-Greater
set-requires-in-Greater g c = (writes-greater g.R.Summand.place g.R.Summand.plus _ _ _ _ _ _ _ _
    c.loop-next.invariant c.as_slice.ensures c.loop-next-test.true c.index-others-next.is
    c.in-Greater.ensures).0

pub loop-next-preserved : goal.loop-next-preserved
loop-next-preserved g c =
    elim c.match-turn.branch [
      | in-Less w ↦ (writes-less g.R.Summand.place g.R.Summand.plus _ _ _ _ _ _ _ _ _ _ c.loop-next.invariant
          c.as_slice.ensures w.as_slice-in-Less.ensures c.loop-next-test.true c.index-others-next.is
          w.in-Less.ensures
          w.index-as_slice-at.is).2 _ _ _ (w.rows-is ∙ w.set.ensures) w.at-is w.next-is
      | in-Equal w ↦ (writes-equal g.R.Summand.fits g.R.Summand.place g.R.Summand.plus _ _ _ _ _ _ _ _ _ _
          c.requires.fits c.loop-next.invariant c.as_slice.ensures w.as_slice-in-Equal.ensures
          c.loop-next-test.true
          c.index-others-next.is w.in-Equal.ensures w.index-as_slice-at-in-Equal.is).3 _ _ _
          (w.rows-is ∙ w.set-in-Equal.ensures ∙ ap (λ r. set c.loop-next.rows c.loop-next.place r)
          w.add.ensures)
          w.at-is w.next-is
      | in-Greater w ↦ (writes-greater g.R.Summand.place g.R.Summand.plus _ _ _ _ _ _ _ _
          c.loop-next.invariant
          c.as_slice.ensures c.loop-next-test.true c.index-others-next.is w.in-Greater.ensures).1 _ _ _
          (w.rows-is ∙ w.set-in-Greater.ensures) w.at-is w.next-is
    ]

pub loop-next-smaller : goal.loop-next-smaller
loop-next-smaller g c = let m = loop-next-preserved g c in
    omega (arith, m.spot_in, m.at_in, m.room, c.loop-next.invariant.room)

pub overflow_add-place : goal.overflow_add-place
overflow_add-place g c = let m = loop-next-preserved g c in
    let inside : c.loop-next.place < length c.as_slice.result.now = omega (
      arith,
      m.spot_in,
      m.at_in,
      m.room,
      c.loop-next.invariant.room,
      ap length c.as_slice.ensures,
    ) in search rules

pub returns : goal.returns
returns g c = merges-end g.R.Summand.place g.R.Summand.plus _ _ _ _ _ _ c.loop-next.invariant
    c.loop-next-test.false
