use Rattle.std.proofs.Common.{◌+◌, ◌++◌, ◌∷◌, [], ◌∙◌}
use Rattle.node_key.specs.Events.{stream_from}
use Rattle.profile_laws.specs.Streams.{idle}
use Rattle.profile_walk.proofs.Summing.{is-ordered, fit-two, kid-fits, sum-two, summed-next}
use Rattle.profile_walk.specs.Summed.{first, kid_parts}
use Rattle.profile_walk.proofs.steps.add_kid.Goals as goal

pub add-requires-clause-ordered : goal.add-requires-clause-ordered
add-requires-clause-ordered g c =
    let at = c.requires.at in
    is-ordered g.met.P.NodeProfile.laws _ c.args.a c.args.b c.pass_kid-behind.new.sum
    (c.pass_kid-behind.ensures.sum at.0 at.1 at.2 at.3 at.4)

pub add-requires-clause-other_ordered : goal.add-requires-clause-other_ordered
add-requires-clause-other_ordered g c =
    is-ordered g.met.P.NodeProfile.laws _ c.args.a c.args.b c.args.own.now c.requires.at.5

pub add-requires-clause-fits : goal.add-requires-clause-fits
add-requires-clause-fits g c =
    let at = c.requires.at in
    let from = c.args.place.from in
    fit-two g.met.P.NodeProfile.laws
    (kid_parts at.2 (first c.args.place.index at.0.kids) ++ idle from (from + at.3.gap) ∷ [])
    (stream_from at.3.tree (from + at.3.gap) ∷ []) c.args.a c.args.b c.pass_kid-behind.new.sum c.args.own.now
    (c.pass_kid-behind.ensures.sum at.0 at.1 at.2 at.3 at.4) at.5 (kid-fits at.4)

pub returns-clause-answer : goal.returns-clause-answer
returns-clause-answer g c t ns at u here own =
    let from = c.args.place.from in
    summed-next here c.pass_kid-behind.result c.add.new.self c.pass_kid-behind.ensures.index
    (c.pass_kid-behind.ensures.from t ns at u here)
    (c.in_ok-add.ensures.ok
    ∙ sum-two g.met.P.NodeProfile.laws
    (kid_parts at (first c.args.place.index t.kids) ++ idle from (from + u.gap) ∷ [])
    (stream_from u.tree (from + u.gap) ∷ []) c.args.a c.args.b c.pass_kid-behind.new.sum c.args.own.now
    (c.pass_kid-behind.ensures.sum t ns at u here) own)
