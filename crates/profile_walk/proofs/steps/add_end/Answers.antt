use Rattle.std.proofs.Common.{ℕ, List, ◌+◌, ◌∷◌, [], ap, sym, subst, ◌∙◌, arith}
use Rattle.profile_laws.specs.Streams.{idle}
use Rattle.profile_walk.proofs.Fitting.{fits-parts}
use Rattle.profile_walk.proofs.Summing.{bare-is, fit-two, is-ordered, parts-end, sum-two}
use Rattle.profile_laws.specs.Sizes.{FitTogether}
use Rattle.profile_walk.specs.Summed.{first, kid_parts}
use Rattle.trace_base.specs.declared.stream.TrackStream.{TrackStream}
use Rattle.profile_walk.proofs.steps.add_end.Goals as goal

pub add_bare-requires-clause-ordered : goal.add_bare-requires-clause-ordered
add_bare-requires-clause-ordered g c =
    is-ordered g.met.P.NodeProfile.laws _ c.args.a c.args.b c.args.sum.now c.requires.end.4.is

pub add_bare-requires-clause-fits : goal.add_bare-requires-clause-fits
add_bare-requires-clause-fits g c =
    let t = c.requires.end.0 in
    let summed = c.requires.end.4 in
    let keyed = c.requires.end.2 in
    let from = c.args.place.from in
    fit-two g.met.P.NodeProfile.laws (kid_parts c.args.at (first c.args.place.index t.kids))
    (idle from (c.args.at + t.dur) ∷ []) c.args.a c.args.b c.args.sum.now _ summed.is
    (bare-is g.met.P.NodeProfile.laws from (c.args.at + c.args.key.now.dur) (c.args.at + t.dur) c.args.a
    c.args.b
    c.time_within.result (ap (λ (n : ℕ). c.args.at + n) keyed.dur) c.time_within.ensures)
    (subst FitTogether
    (parts-end t c.args.at c.args.place.index from (omega (arith, c.requires.all, keyed.len)) summed.from)
    (fits-parts t c.args.at c.requires.end.3 (omega (arith, summed.in_time))))

pub returns : goal.returns
returns g c t ns keyed sums summed =
    let from = c.args.place.from in
    c.add_bare.ensures
    ∙ sum-two g.met.P.NodeProfile.laws (kid_parts c.args.at (first c.args.place.index t.kids))
    (idle from (c.args.at + t.dur) ∷ []) c.args.a c.args.b c.args.sum.now _ summed.is
    (bare-is g.met.P.NodeProfile.laws from (c.args.at + c.args.key.now.dur) (c.args.at + t.dur) c.args.a
    c.args.b
    c.time_within.result (ap (λ (n : ℕ). c.args.at + n) keyed.dur) c.time_within.ensures)
    ∙ ap (λ (l : List TrackStream). g.P.NodeProfile.profile l c.args.a c.args.b)
    (sym (parts-end t c.args.at c.args.place.index from (omega (arith, c.requires.all, keyed.len))
    summed.from))
