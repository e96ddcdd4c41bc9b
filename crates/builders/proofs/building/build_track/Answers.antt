use Rattle.std.proofs.Common.{◌≡◌, ℕ, ◌+◌, ◌<◌, ◌∷◌, ◌∙◌, List, length, drop, sym, ap, arith, get_or}
use Rattle.std.proofs.lemmas.List.{drop_more}
use Rattle.trace_base.specs.declared.stream.Event.{Event}
use Rattle.trace_base.specs.declared.stream.Event.TheVariants.{Enter}
use Rattle.builders.proofs.BuildingTrack.{BuildingTrack-close, BuildingTrack-next, BuildingTrack-refused}
use Rattle.builders.proofs.BuildingTrack.{BuildingTrack-root, BuildingTrack-start, BuildingTrack-left}
use Rattle.builders.proofs.BuildingTrack.{BuildingTrack-left-work, BuildingTrack-refused-work}
use Rattle.builders.proofs.BuildingTrack.{BuildingTrack-root-work, BuildingTrack-step}
use Rattle.builders.proofs.Bags.{exchanges-then}
use Rattle.builders.specs.Calls.{calls_stakes}
use Rattle.std.proofs.Common.{[], ◌++◌, Err}
use Rattle.builders.specs.Built.{stakes_held}
use Rattle.builders.proofs.KeepingOthers.{others_last, reach_at_end, reach_beside}
use Rattle.builders.proofs.BuildingViews.{building_then, refused_then, working_same, working_then}
use Rattle.builders.proofs.Spending.{spends_later}
use Rattle.hall_trait.specs.View.{Account}
use Rattle.builders.proofs.building.build_track.Goals as goal

-- the next event, in the form of the code
next_in : (es items : List Event) (i : ℕ) → items ≡ es → i < length items
    → drop i es ≡ get_or items i (Enter 0 0) ∷ drop (i + 1) es
next_in es items i e h =
    drop_more es i (Enter 0 0) (omega (arith, h, ap length e))
    ∙ ap (λ (l : List Event). get_or l i (Enter 0 0) ∷ drop (i + 1) es) (sym e)

pub loop-event-init : goal.loop-event-init
loop-event-init g c = record {
  building = BuildingTrack-start c.args.s.now (g.H.Hall.view c.args.hall.now).seat
      (g.H.Hall.view c.args.hall.now).account.work
      c.new-around.result.items c.new.result c.requires c.new-around.ensures.items c.new.ensures;
  reach = λ by_what n t has led. led;
  rest = working_same (g.H.Hall.view c.args.hall.now);
}

pub step-requires : goal.step-requires
step-requires g c =
    let b = c.loop-event.invariant.building in (
      b.calls,
      b.call,
      BuildingTrack-next c.args.s.now (g.H.Hall.view c.args.hall.now).seat
          (g.H.Hall.view c.loop-event.hall).seat
          (g.H.Hall.view c.args.hall.now).account.work (g.H.Hall.view c.loop-event.hall).account.work
          c.loop-event.around.items
          c.loop-event.innermost c.loop-event.event-index _ c.requires b
          (next_in c.args.s.now.events _ c.loop-event.event-index c.as_slice-event-items.ensures
          (omega arith)),
    )

pub release_calls-requires : goal.release_calls-requires
release_calls-requires g c =
    let b = c.loop-event.invariant.building in
    let held = BuildingTrack-next c.args.s.now (g.H.Hall.view c.args.hall.now).seat
    (g.H.Hall.view c.loop-event.hall).seat
    (g.H.Hall.view c.args.hall.now).account.work (g.H.Hall.view c.loop-event.hall).account.work
    c.loop-event.around.items
    c.loop-event.innermost c.loop-event.event-index _ c.requires b
    (next_in c.args.s.now.events _ c.loop-event.event-index c.as_slice-event-items.ensures (omega arith)) in
    let left = BuildingTrack-left c.args.s.now (g.H.Hall.view c.args.hall.now).seat
    (g.H.Hall.view c.loop-event.hall).seat
    (g.H.Hall.view c.step.new.hall).seat (g.H.Hall.view c.args.hall.now).account.work
    (g.H.Hall.view c.loop-event.hall).account.work
    c.loop-event.around.items c.step.new.around.items c.deref.result.now c.loop-event.innermost
    c.loop-event.event-index
    (get_or c.as_slice-event-items.result.now c.loop-event.event-index (Enter 0 0)) c.in-Err.fault b
    (c.in-Err.ensures.answer b.calls b.call held) c.deref.ensures.value in
    (left.0, left.1, left.2)

pub returns-in-Err-clause-answer : goal.returns-in-Err-clause-answer
returns-in-Err-clause-answer g c =
    let b = c.loop-event.invariant.building in
    let held = BuildingTrack-next c.args.s.now (g.H.Hall.view c.args.hall.now).seat
    (g.H.Hall.view c.loop-event.hall).seat
    (g.H.Hall.view c.args.hall.now).account.work (g.H.Hall.view c.loop-event.hall).account.work
    c.loop-event.around.items
    c.loop-event.innermost c.loop-event.event-index _ c.requires b
    (next_in c.args.s.now.events _ c.loop-event.event-index c.as_slice-event-items.ensures (omega arith)) in
    let left = BuildingTrack-left c.args.s.now (g.H.Hall.view c.args.hall.now).seat
    (g.H.Hall.view c.loop-event.hall).seat
    (g.H.Hall.view c.step.new.hall).seat (g.H.Hall.view c.args.hall.now).account.work
    (g.H.Hall.view c.loop-event.hall).account.work
    c.loop-event.around.items c.step.new.around.items c.deref.result.now c.loop-event.innermost
    c.loop-event.event-index
    (get_or c.as_slice-event-items.result.now c.loop-event.event-index (Enter 0 0)) c.in-Err.fault b
    (c.in-Err.ensures.answer b.calls b.call held) c.deref.ensures.value in
    exchanges-then (g.H.Hall.view c.args.hall.now).seat (g.H.Hall.view c.step.new.hall).seat
    (g.H.Hall.view c.release_calls.new.hall).seat [] (calls_stakes left.0) [] left.3
    (c.release_calls.ensures.gone left.0 left.1 left.2)

pub loop-event-preserved : goal.loop-event-preserved
loop-event-preserved g c =
    let b = c.loop-event.invariant.building in
    let next = (next_in c.args.s.now.events _ c.loop-event.event-index c.as_slice-event-items.ensures
    (omega arith)) in
    let held = BuildingTrack-next c.args.s.now (g.H.Hall.view c.args.hall.now).seat
    (g.H.Hall.view c.loop-event.hall).seat
    (g.H.Hall.view c.args.hall.now).account.work (g.H.Hall.view c.loop-event.hall).account.work
    c.loop-event.around.items
    c.loop-event.innermost c.loop-event.event-index _ c.requires b
    next in record {
      building = BuildingTrack-step c.args.s.now (g.H.Hall.view c.args.hall.now).seat
          (g.H.Hall.view c.loop-event.hall).seat
          (g.H.Hall.view c.step.new.hall).seat (g.H.Hall.view c.args.hall.now).account.work
          (g.H.Hall.view c.loop-event.hall).account.work
          (g.H.Hall.view c.step.new.hall).account.work c.loop-event.around.items c.step.new.around.items
          c.loop-event.innermost
          c.in-Ok.now c.loop-event.event-index _ b next (c.in-Ok.ensures.answer b.calls b.call held)
          (c.in-Ok.ensures.work b.calls b.call held);
      reach = reach_beside (g.H.Hall.view c.args.hall.now).seat (g.H.Hall.view c.loop-event.hall).seat
          (calls_stakes b.calls ++ stakes_held b.call.stored) (g.H.Hall.reaches c.args.hall.now)
          (g.H.Hall.reaches c.loop-event.hall) (g.H.Hall.reaches c.step.new.hall) b.exchanged
          c.loop-event.invariant.reach (c.in-Ok.ensures.reach b.calls b.call held);
      rest = working_then (g.H.Hall.view c.args.hall.now) (g.H.Hall.view c.loop-event.hall)
          (g.H.Hall.view c.step.new.hall) c.loop-event.invariant.rest c.in-Ok.ensures.rest;
    }

pub close-requires : goal.close-requires
close-requires g c =
    let b = c.loop-event.invariant.building in (
      b.call,
      BuildingTrack-close c.args.s.now (g.H.Hall.view c.args.hall.now).seat
          (g.H.Hall.view c.loop-event.hall).seat
          (g.H.Hall.view c.args.hall.now).account.work (g.H.Hall.view c.loop-event.hall).account.work
          c.loop-event.around.items
          c.loop-event.innermost c.loop-event.event-index c.requires b
          (omega (arith, c.loop-event-test.false, ap length c.as_slice-event-items.ensures)),
    )

pub returns-in-Ok-close-clause-answer : goal.returns-in-Ok-close-clause-answer
returns-in-Ok-close-clause-answer g c =
    let b = c.loop-event.invariant.building in
    let held = BuildingTrack-close c.args.s.now (g.H.Hall.view c.args.hall.now).seat
    (g.H.Hall.view c.loop-event.hall).seat
    (g.H.Hall.view c.args.hall.now).account.work (g.H.Hall.view c.loop-event.hall).account.work
    c.loop-event.around.items
    c.loop-event.innermost c.loop-event.event-index c.requires b
    (omega (arith, c.loop-event-test.false, ap length c.as_slice-event-items.ensures)) in
    BuildingTrack-root c.args.s.now (g.H.Hall.view c.args.hall.now).seat
    (g.H.Hall.view c.loop-event.hall).seat
    (g.H.Hall.view c.close.new.hall).seat (g.H.Hall.view c.args.hall.now).account.work
    (g.H.Hall.view c.loop-event.hall).account.work
    c.loop-event.around.items
    c.loop-event.innermost c.loop-event.event-index c.in-Ok-close.root c.requires b
    (omega (arith, c.loop-event-test.false, ap length c.as_slice-event-items.ensures))
    (c.in-Ok-close.ensures.answer b.call held)

pub returns-clause-answer : goal.returns-clause-answer
returns-clause-answer g c =
    let b = c.loop-event.invariant.building in
    let held = BuildingTrack-close c.args.s.now (g.H.Hall.view c.args.hall.now).seat
    (g.H.Hall.view c.loop-event.hall).seat
    (g.H.Hall.view c.args.hall.now).account.work (g.H.Hall.view c.loop-event.hall).account.work
    c.loop-event.around.items
    c.loop-event.innermost c.loop-event.event-index c.requires b
    (omega (arith, c.loop-event-test.false, ap length c.as_slice-event-items.ensures)) in
    BuildingTrack-refused c.args.s.now (g.H.Hall.view c.args.hall.now).seat
    (g.H.Hall.view c.loop-event.hall).seat
    (g.H.Hall.view c.close.new.hall).seat (g.H.Hall.view c.args.hall.now).account.work
    (g.H.Hall.view c.loop-event.hall).account.work
    c.loop-event.around.items
    c.loop-event.innermost c.loop-event.event-index c.in-Err-close.fault b
    (omega (arith, c.loop-event-test.false, ap length c.as_slice-event-items.ensures))
    (c.in-Err-close.ensures.answer b.call held)

pub returns-in-Err-clause-spent : goal.returns-in-Err-clause-spent
returns-in-Err-clause-spent g c =
    spends_later (g.H.Hall.view c.step.new.hall).rooms (g.H.Hall.view c.release_calls.new.hall).rooms
    c.in-Err.fault
    c.release_calls.ensures.rest.rooms
    c.in-Err.ensures.spent

pub returns-in-Err-clause-work : goal.returns-in-Err-clause-work
returns-in-Err-clause-work g c =
    let b = c.loop-event.invariant.building in
    let next = (next_in c.args.s.now.events _ c.loop-event.event-index c.as_slice-event-items.ensures
    (omega arith)) in
    let held = BuildingTrack-next c.args.s.now (g.H.Hall.view c.args.hall.now).seat
    (g.H.Hall.view c.loop-event.hall).seat
    (g.H.Hall.view c.args.hall.now).account.work (g.H.Hall.view c.loop-event.hall).account.work
    c.loop-event.around.items
    c.loop-event.innermost c.loop-event.event-index _ c.requires b
    next in
    BuildingTrack-left-work c.args.s.now (g.H.Hall.view c.args.hall.now).seat
    (g.H.Hall.view c.loop-event.hall).seat
    (g.H.Hall.view c.args.hall.now).account.work (g.H.Hall.view c.loop-event.hall).account.work
    (g.H.Hall.view c.step.new.hall).account.work
    (g.H.Hall.view c.release_calls.new.hall).account.work c.loop-event.around.items c.loop-event.innermost
    c.loop-event.event-index (get_or c.as_slice-event-items.result.now c.loop-event.event-index (Enter 0 0))
    c.in-Err.fault c.requires b next (c.in-Err.ensures.work b.calls b.call held)
    (ap (λ (a : Account). a.work) c.release_calls.ensures.rest.account)

pub returns-in-Ok-close-clause-work : goal.returns-in-Ok-close-clause-work
returns-in-Ok-close-clause-work g c =
    let b = c.loop-event.invariant.building in
    let held = BuildingTrack-close c.args.s.now (g.H.Hall.view c.args.hall.now).seat
    (g.H.Hall.view c.loop-event.hall).seat
    (g.H.Hall.view c.args.hall.now).account.work (g.H.Hall.view c.loop-event.hall).account.work
    c.loop-event.around.items
    c.loop-event.innermost c.loop-event.event-index c.requires b
    (omega (arith, c.loop-event-test.false, ap length c.as_slice-event-items.ensures)) in
    BuildingTrack-root-work c.args.s.now (g.H.Hall.view c.args.hall.now).seat
    (g.H.Hall.view c.loop-event.hall).seat
    (g.H.Hall.view c.args.hall.now).account.work (g.H.Hall.view c.loop-event.hall).account.work
    (g.H.Hall.view c.close.new.hall).account.work
    c.loop-event.around.items c.loop-event.innermost c.loop-event.event-index c.in-Ok-close.root c.requires b
    (omega (arith, c.loop-event-test.false, ap length c.as_slice-event-items.ensures))
    (c.in-Ok-close.ensures.work b.call held)

pub returns-clause-work : goal.returns-clause-work
returns-clause-work g c =
    let b = c.loop-event.invariant.building in
    let held = BuildingTrack-close c.args.s.now (g.H.Hall.view c.args.hall.now).seat
    (g.H.Hall.view c.loop-event.hall).seat
    (g.H.Hall.view c.args.hall.now).account.work (g.H.Hall.view c.loop-event.hall).account.work
    c.loop-event.around.items
    c.loop-event.innermost c.loop-event.event-index c.requires b
    (omega (arith, c.loop-event-test.false, ap length c.as_slice-event-items.ensures)) in
    BuildingTrack-refused-work c.args.s.now (g.H.Hall.view c.args.hall.now).seat
    (g.H.Hall.view c.loop-event.hall).seat
    (g.H.Hall.view c.args.hall.now).account.work (g.H.Hall.view c.loop-event.hall).account.work
    (g.H.Hall.view c.close.new.hall).account.work
    c.loop-event.around.items c.loop-event.innermost c.loop-event.event-index c.in-Err-close.fault c.requires
    b (omega (arith, c.loop-event-test.false, ap length c.as_slice-event-items.ensures))
    (c.in-Err-close.ensures.work b.call held)

pub returns-in-Err-clause-rest : goal.returns-in-Err-clause-rest
returns-in-Err-clause-rest g c =
    refused_then (g.H.Hall.view c.args.hall.now) (g.H.Hall.view c.step.new.hall)
    (g.H.Hall.view c.release_calls.new.hall) c.in-Err.fault
    (building_then {X = ℕ} (g.H.Hall.view c.args.hall.now) (g.H.Hall.view c.loop-event.hall)
    (g.H.Hall.view c.step.new.hall) (Err c.in-Err.fault) c.loop-event.invariant.rest c.in-Err.ensures.rest)
    c.release_calls.ensures.rest

pub returns-in-Ok-close-clause-rest : goal.returns-in-Ok-close-clause-rest
returns-in-Ok-close-clause-rest g c =
    working_then (g.H.Hall.view c.args.hall.now) (g.H.Hall.view c.loop-event.hall)
    (g.H.Hall.view c.close.new.hall) c.loop-event.invariant.rest c.in-Ok-close.ensures.rest

pub returns-clause-rest : goal.returns-clause-rest
returns-clause-rest g c =
    building_then {X = ℕ} (g.H.Hall.view c.args.hall.now) (g.H.Hall.view c.loop-event.hall)
    (g.H.Hall.view c.close.new.hall) (Err c.in-Err-close.fault) c.loop-event.invariant.rest
    c.in-Err-close.ensures.rest

pub returns-in-Err-clause-reach : goal.returns-in-Err-clause-reach
returns-in-Err-clause-reach g c =
    let b = c.loop-event.invariant.building in
    let held = BuildingTrack-next c.args.s.now (g.H.Hall.view c.args.hall.now).seat
    (g.H.Hall.view c.loop-event.hall).seat (g.H.Hall.view c.args.hall.now).account.work
    (g.H.Hall.view c.loop-event.hall).account.work c.loop-event.around.items c.loop-event.innermost
    c.loop-event.event-index _ c.requires b
    (next_in c.args.s.now.events _ c.loop-event.event-index c.as_slice-event-items.ensures (omega arith)) in
    reach_at_end (g.H.Hall.view c.args.hall.now).seat (g.H.Hall.view c.release_calls.new.hall).seat []
    (g.H.Hall.reaches c.args.hall.now) (g.H.Hall.reaches c.step.new.hall)
    (g.H.Hall.reaches c.release_calls.new.hall) (returns-in-Err-clause-answer g c)
    (reach_beside (g.H.Hall.view c.args.hall.now).seat (g.H.Hall.view c.loop-event.hall).seat
    (calls_stakes b.calls ++ stakes_held b.call.stored) (g.H.Hall.reaches c.args.hall.now)
    (g.H.Hall.reaches c.loop-event.hall) (g.H.Hall.reaches c.step.new.hall) b.exchanged
    c.loop-event.invariant.reach (c.step.ensures.reach b.calls b.call held)) c.release_calls.ensures.reach

pub returns-in-Ok-close-clause-reach : goal.returns-in-Ok-close-clause-reach
returns-in-Ok-close-clause-reach g c =
    let b = c.loop-event.invariant.building in
    let held = BuildingTrack-close c.args.s.now (g.H.Hall.view c.args.hall.now).seat
    (g.H.Hall.view c.loop-event.hall).seat (g.H.Hall.view c.args.hall.now).account.work
    (g.H.Hall.view c.loop-event.hall).account.work c.loop-event.around.items c.loop-event.innermost
    c.loop-event.event-index c.requires b
    (omega (arith, c.loop-event-test.false, ap length c.as_slice-event-items.ensures)) in
    reach_beside (g.H.Hall.view c.args.hall.now).seat (g.H.Hall.view c.loop-event.hall).seat
    (calls_stakes b.calls ++ stakes_held b.call.stored) (g.H.Hall.reaches c.args.hall.now)
    (g.H.Hall.reaches c.loop-event.hall) (g.H.Hall.reaches c.close.new.hall) b.exchanged
    c.loop-event.invariant.reach
    (others_last (g.H.Hall.view c.loop-event.hall).seat (calls_stakes b.calls) (stakes_held b.call.stored)
    (g.H.Hall.reaches c.loop-event.hall) (g.H.Hall.reaches c.close.new.hall)
    (c.close.ensures.reach b.call held))

pub returns-clause-reach : goal.returns-clause-reach
returns-clause-reach g c =
    let b = c.loop-event.invariant.building in
    let held = BuildingTrack-close c.args.s.now (g.H.Hall.view c.args.hall.now).seat
    (g.H.Hall.view c.loop-event.hall).seat (g.H.Hall.view c.args.hall.now).account.work
    (g.H.Hall.view c.loop-event.hall).account.work c.loop-event.around.items c.loop-event.innermost
    c.loop-event.event-index c.requires b
    (omega (arith, c.loop-event-test.false, ap length c.as_slice-event-items.ensures)) in
    reach_beside (g.H.Hall.view c.args.hall.now).seat (g.H.Hall.view c.loop-event.hall).seat
    (calls_stakes b.calls ++ stakes_held b.call.stored) (g.H.Hall.reaches c.args.hall.now)
    (g.H.Hall.reaches c.loop-event.hall) (g.H.Hall.reaches c.close.new.hall) b.exchanged
    c.loop-event.invariant.reach
    (others_last (g.H.Hall.view c.loop-event.hall).seat (calls_stakes b.calls) (stakes_held b.call.stored)
    (g.H.Hall.reaches c.loop-event.hall) (g.H.Hall.reaches c.close.new.hall)
    (c.close.ensures.reach b.call held))
