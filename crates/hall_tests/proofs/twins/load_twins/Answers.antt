use Rattle.std.proofs.Common.{Contains, List, ap, length, refl, subst, sym}
use Rattle.std.specs.Arc.{arc_value}
use Rattle.hall_history.specs.declared.seat.PassView.{PassView}
use Rattle.hall_trait.specs.Pass.{pass_view}
use Rattle.node_key.specs.Examples.{track_of_half}
use Rattle.trace_base.specs.Examples.{two_calls}
use Rattle.hall_tests.proofs.SampleLoads.{adds_has}
use Rattle.hall_tests.proofs.SampleStakes.{two_calls_tree}
use Rattle.hall_tests.proofs.SampleTracks.{first_fits, first_next, first_root, second_alone, second_fits}
use Rattle.hall_tests.proofs.twins.load_twins.Goals as goal

pub publish-requires-clause-has : goal.publish-requires-clause-has
publish-requires-clause-has g c =
    let pass = pass_view c.in_ok-pass.pass in
    subst (λ (ps : List PassView). Contains ps pass) (sym c.build-first.ensures.passes)
    (adds_has _ _ _ c.in_ok-pass.ensures.answer.passes)

pub publish-requires-clause-root : goal.publish-requires-clause-root
publish-requires-clause-root g c =
    let admitted = c.in_ok-pass.ensures.answer in
    let has = c.in_ok-two_tracks.ensures.two in
    let two = ap length has.tracks in
    let info = arc_value c.in_ok-two_tracks.field-0 in
    let first = c.build-first in (
      0,
      two_calls,
      first_next two_calls track_of_half _ _ _ info _ first.result two_calls_tree refl admitted two
          first.ensures,
      first_root two_calls track_of_half _ _ _ info _ first.result two_calls_tree refl admitted two
          first.ensures (first_fits info has),
    )

pub end_load-requires : goal.end_load-requires
end_load-requires g c =
    let admitted = c.in_ok-pass.ensures.answer in
    let has = c.in_ok-two_tracks.ensures.two in
    let two = ap length has.tracks in
    let info = arc_value c.in_ok-two_tracks.field-0 in
    let first = c.build-first in
    let next = first_next two_calls track_of_half _ _ _ info _ first.result two_calls_tree refl admitted two
    first.ensures in
    let root = first_root two_calls track_of_half _ _ _ info _ first.result two_calls_tree refl admitted two
    first.ensures (first_fits info has) in
    second_alone two_calls track_of_half _ _ _ info _ first.result two_calls_tree refl admitted two
    first.ensures _ _ _ c.build-second.result _ (second_fits info has) c.requires
    (c.publish.ensures.answer 0 two_calls next root) c.publish.ensures.pass c.build-second.ensures
