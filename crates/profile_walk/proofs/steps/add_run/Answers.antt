use Rattle.std.proofs.Common.{refl, ap, ◌∙◌, arith}
use Rattle.std.proofs.lemmas.Option.{get_or_from_slice_get}
use Rattle.node_key.specs.declared.key.Kid.{Kid}
use Rattle.profile_walk.proofs.FirstKids.{first-total}
use Rattle.profile_walk.proofs.Running.{aside-next, run-kid}
use Rattle.profile_walk.proofs.steps.add_run.Goals as goal

abbrev none : Kid
none = record { gap = 0; span = 0; node = 0 }

pub add_kid-requires : goal.add_kid-requires
add_kid-requires g c =
    let run = c.requires.at.4 in
    let kid = run-kid g.met.P.NodeProfile.laws run c.args.place c.args.sum.now c.requires.at.3 run.summed
    run.inside
    refl in
    record { at = (c.requires.at.0, c.requires.at.1, c.requires.at.2, kid.u, kid.here, kid.adds) }

pub run-init : goal.run-init
run-init g c = record {
  more = omega (arith, c.in_ok-behind.ensures.index);
  within = omega (arith, c.in_ok-behind.ensures.index, c.requires.at.4.inside.more);
  summed = λ t ns at next run.
      let kid = run-kid g.met.P.NodeProfile.laws run c.args.place c.args.sum.now next run.summed run.inside
      refl in
      c.in_ok-behind.ensures.answer t ns at kid.u kid.here kid.adds;
  across = λ t ns at next run.
      let kid = run-kid g.met.P.NodeProfile.laws run c.args.place c.args.sum.now next run.summed run.inside
      refl in
      aside-next kid.here c.in_ok-behind.behind.index c.in_ok-behind.ensures.index kid.aside;
}

pub goes_on-requires : goal.goes_on-requires
goes_on-requires g c =
    let t = c.requires.at.0 in
    let run = c.requires.at.4 in
    let so_far = c.run.invariant.summed t c.requires.at.1 c.requires.at.2 c.requires.at.3 run in
    omega (
      arith,
      so_far.from,
      so_far.in_time,
      first-total c.run.behind.index t.kids,
      run.sums.timed.0,
      run.keyed.dur,
    )

pub add_kid-requires-in-run : goal.add_kid-requires-in-run
add_kid-requires-in-run g c =
    let run = c.requires.at.4 in
    let next = c.goes_on.ensures c.run-test.true in
    let kid = run-kid g.met.P.NodeProfile.laws run c.run.behind c.run.sum next.0
    (c.run.invariant.summed c.requires.at.0 c.requires.at.1 c.requires.at.2 c.requires.at.3 run) next.1
    (next.2 ∙ ap (λ (k : Kid). k.node)
    (get_or_from_slice_get c.args.key.now.kids c.args.place.index c.requires.at.3 none run.inside.here)) in
    record { at = (c.requires.at.0, c.requires.at.1, c.requires.at.2, kid.u, kid.here, kid.adds) }

pub run-preserved : goal.run-preserved
run-preserved g c =
    let after = c.goes_on.ensures c.run-test.true in record {
      more = omega (arith, c.run.invariant.more, c.in_ok-behind-2.ensures.index);
      within = omega (arith, after.1.more, c.in_ok-behind-2.ensures.index);
      summed = λ t ns at next run.
          let kid = run-kid g.met.P.NodeProfile.laws run c.run.behind c.run.sum after.0
          (c.run.invariant.summed t ns at next run) after.1
          (after.2 ∙ ap (λ (k : Kid). k.node)
          (get_or_from_slice_get c.args.key.now.kids c.args.place.index next none run.inside.here)) in
          c.in_ok-behind-2.ensures.answer t ns at kid.u kid.here kid.adds;
      across = λ t ns at next run.
          let kid = run-kid g.met.P.NodeProfile.laws run c.run.behind c.run.sum after.0
          (c.run.invariant.summed t ns at next run) after.1
          (after.2 ∙ ap (λ (k : Kid). k.node)
          (get_or_from_slice_get c.args.key.now.kids c.args.place.index next none run.inside.here)) in
          aside-next kid.here c.in_ok-behind-2.behind.index c.in_ok-behind-2.ensures.index kid.aside
          ∙ c.run.invariant.across t ns at next run;
    }
