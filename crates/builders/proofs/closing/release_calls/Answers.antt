use Rattle.std.proofs.Common.{◌∙◌, ap, arith}
use Rattle.builders.specs.declared.built.OpenCall.{OpenCall}
use Rattle.builders.proofs.ClosingCalls.{CallsReleasing-next}
use Rattle.builders.proofs.KeepingOthers.{reach_released}
use Rattle.hall_trait.proofs.Views.{goes_on_then}
use Rattle.builders.proofs.closing.release_calls.Goals as goal

pub release_all-requires : goal.release_all-requires
release_all-requires g c =
    let next = CallsReleasing-next (g.H.Hall.view c.args.hall.now).seat (g.H.Hall.view c.loop-call.hall).seat
    c.args.calls.now
    c.loop-call.call-index c.call-item.result c.as_slice.result.now c.loop-call.invariant.releasing
    (omega arith)
    (c.as_slice.ensures ∙ ap (λ (o : OpenCall). o.items) c.call-item.is) c.requires.0 c.requires.1
    c.requires.2 in
    (next.0, next.1)

pub loop-call-preserved : goal.loop-call-preserved
loop-call-preserved g c = record {
  releasing = λ stored are held.
      let next = CallsReleasing-next (g.H.Hall.view c.args.hall.now).seat
      (g.H.Hall.view c.loop-call.hall).seat
      c.args.calls.now c.loop-call.call-index c.call-item.result c.as_slice.result.now
      c.loop-call.invariant.releasing (omega arith)
      (c.as_slice.ensures ∙ ap (λ (o : OpenCall). o.items) c.call-item.is) stored are held in
      next.2 (g.H.Hall.view c.release_all.new.hall).seat (c.release_all.ensures.gone next.0 next.1);
  reach = let next = CallsReleasing-next (g.H.Hall.view c.args.hall.now).seat
      (g.H.Hall.view c.loop-call.hall).seat c.args.calls.now c.loop-call.call-index c.call-item.result
      c.as_slice.result.now c.loop-call.invariant.releasing (omega arith)
      (c.as_slice.ensures ∙ ap (λ (o : OpenCall). o.items) c.call-item.is) c.requires.0 c.requires.1
      c.requires.2 in
      reach_released (g.H.Hall.view c.loop-call.hall).seat (g.H.Hall.view c.release_all.new.hall).seat _
      (g.H.Hall.reaches c.args.hall.now) (g.H.Hall.reaches c.loop-call.hall)
      (g.H.Hall.reaches c.release_all.new.hall) (c.release_all.ensures.gone next.0 next.1)
      c.loop-call.invariant.reach c.release_all.ensures.reach;
  rest = goes_on_then (g.H.Hall.view c.args.hall.now) (g.H.Hall.view c.loop-call.hall)
      (g.H.Hall.view c.release_all.new.hall) c.loop-call.invariant.rest c.release_all.ensures.rest;
}
