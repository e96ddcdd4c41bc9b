use Rattle.std.proofs.Common.{ℕ, ◌+◌, ◌∷◌, [], get_or, ap, ◌∙◌, arith}
use Rattle.node_key.specs.declared.key.Kid.{Kid}
use Rattle.profile_laws.specs.Streams.{idle}
use Rattle.profile_walk.proofs.Summing.{bare-is, fit-two, gap-fits, is-ordered, kid-at, kid-below, kid-ends}
use Rattle.profile_walk.proofs.Summing.{sum-two}
use Rattle.profile_walk.specs.Summed.{first, kid_parts}
use Rattle.profile_walk.proofs.steps.pass_kid.Goals as goal

abbrev none : Kid
none = record { gap = 0; span = 0; node = 0 }

pub bounds-key-place : goal.bounds-key-place
bounds-key-place g c = omega (arith, kid-below c.requires.at.4, c.args.key.now.few)

pub overflow_add-start : goal.overflow_add-start
overflow_add-start g c =
    let here = c.requires.at.4 in omega (arith, kid-ends here, (kid-at here none).gap)

pub add_bare-requires-clause-ordered : goal.add_bare-requires-clause-ordered
add_bare-requires-clause-ordered g c =
    is-ordered g.met.P.NodeProfile.laws _ c.args.a c.args.b c.args.sum.now c.requires.at.4.summed.is

pub add_bare-requires-clause-fits : goal.add_bare-requires-clause-fits
add_bare-requires-clause-fits g c =
    let here = c.requires.at.4 in
    let from = c.args.place.from in
    let kid = get_or c.args.key.now.kids c.args.place.index none in
    fit-two g.met.P.NodeProfile.laws (kid_parts c.requires.at.2 (first c.args.place.index
    c.requires.at.0.kids))
    (idle from (from + c.requires.at.3.gap) ∷ []) c.args.a c.args.b c.args.sum.now _ here.summed.is
    (bare-is g.met.P.NodeProfile.laws from (from + kid.gap) (from + c.requires.at.3.gap) c.args.a c.args.b
    c.time_within.result (ap (λ (n : ℕ). from + n) (kid-at here none).gap) c.time_within.ensures)
    (gap-fits here)

pub overflow_add-result-2 : goal.overflow_add-result-2
overflow_add-result-2 g c =
    let here = c.requires.at.4 in omega (
      arith,
      kid-ends here,
      (kid-at here none).gap,
      (kid-at here
          none).span,
    )

pub returns-clause-from : goal.returns-clause-from
returns-clause-from g c t ns at u here = omega (arith, (kid-at here none).gap, (kid-at here none).span)

pub returns-clause-sum : goal.returns-clause-sum
returns-clause-sum g c t ns at u here =
    let from = c.args.place.from in
    let kid = get_or c.args.key.now.kids c.args.place.index none in
    c.add_bare.ensures
    ∙ sum-two g.met.P.NodeProfile.laws (kid_parts at (first c.args.place.index t.kids))
    (idle from (from + u.gap) ∷ []) c.args.a c.args.b c.args.sum.now _ here.summed.is
    (bare-is g.met.P.NodeProfile.laws from (from + kid.gap) (from + u.gap) c.args.a c.args.b
    c.time_within.result (ap (λ (n : ℕ). from + n) (kid-at here none).gap) c.time_within.ensures)
