use Rattle.std.proofs.Common.{[], ◌∙◌, ℕ, Err, ap}
use Rattle.hall_trait.specs.View.{Account}
use Rattle.builders.specs.Built.{stakes_held}
use Rattle.builders.proofs.Bags.{exchanges-then}
use Rattle.builders.proofs.ClosingCalls.{bounded-held, call-bound, call-closed, closed-work, held-bounded}
use Rattle.builders.proofs.ClosingCalls.{unbound-work, unclosed-work}
use Rattle.builders.proofs.KeepingOthers.{others_more}
use Rattle.builders.proofs.BuildingViews.{building_then, refused_then, working_then}
use Rattle.builders.proofs.Spending.{spends_later}
use Rattle.builders.proofs.closing.close.Goals as goal

pub bound_of-requires : goal.bound_of-requires
bound_of-requires g c = (
  c.requires.0.stored,
  call-bound (g.H.Hall.view c.args.hall.now).seat c.args.innermost c.args.stop c.requires.0
      c.requires.1,
)

pub returns-in-Err-clause-answer : goal.returns-in-Err-clause-answer
returns-in-Err-clause-answer g c call held =
    c.in-Err.ensures.answer call.stored
    (call-bound (g.H.Hall.view c.args.hall.now).seat c.args.innermost c.args.stop call held)

pub node_of-requires-clause-held : goal.node_of-requires-clause-held
node_of-requires-clause-held g c =
    let built = c.in-Ok.ensures.answer c.requires.0.stored
    (call-bound (g.H.Hall.view c.args.hall.now).seat c.args.innermost c.args.stop c.requires.0 c.requires.1)
    in (
      built.0,
      held-bounded (g.H.Hall.view c.args.hall.now).seat (g.H.Hall.view c.bound_of.new.hall).seat
          c.args.innermost
          c.args.stop
          c.requires.0 c.in-Ok.bounded c.as_slice.result.now c.requires.1 c.as_slice.ensures built,
    )

pub returns-in-Ok-node_of-clause-answer : goal.returns-in-Ok-node_of-clause-answer
returns-in-Ok-node_of-clause-answer g c call held =
    let built = c.in-Ok.ensures.answer call.stored
    (call-bound (g.H.Hall.view c.args.hall.now).seat c.args.innermost c.args.stop call held) in
    call-closed (g.H.Hall.view c.args.hall.now).seat (g.H.Hall.view c.bound_of.new.hall).seat
    (g.H.Hall.view c.node_of.new.hall).seat c.args.innermost c.args.stop call c.in-Ok.bounded
    c.in-Ok-node_of.item
    held
    built (c.in-Ok-node_of.ensures.answer built.0
    (held-bounded (g.H.Hall.view c.args.hall.now).seat (g.H.Hall.view c.bound_of.new.hall).seat
    c.args.innermost
    c.args.stop
    call c.in-Ok.bounded c.as_slice.result.now held c.as_slice.ensures built))

pub returns-in-Err-clause-work : goal.returns-in-Err-clause-work
returns-in-Err-clause-work g c call held =
    unbound-work (g.H.Hall.view c.args.hall.now).account.work
    (g.H.Hall.view c.bound_of.new.hall).account.work call c.args.stop
    (c.in-Err.ensures.work call.stored
    (call-bound (g.H.Hall.view c.args.hall.now).seat c.args.innermost c.args.stop call held))

pub returns-in-Ok-node_of-clause-work : goal.returns-in-Ok-node_of-clause-work
returns-in-Ok-node_of-clause-work g c call held =
    closed-work (g.H.Hall.view c.args.hall.now).account.work (g.H.Hall.view c.bound_of.new.hall).account.work
    (g.H.Hall.view c.node_of.new.hall).account.work call c.args.stop c.in-Ok-node_of.item
    (c.in-Ok.ensures.work call.stored
    (call-bound (g.H.Hall.view c.args.hall.now).seat c.args.innermost c.args.stop call held))
    c.in-Ok-node_of.ensures.work

pub returns-clause-work : goal.returns-clause-work
returns-clause-work g c call held =
    unclosed-work (g.H.Hall.view c.args.hall.now).account.work
    (g.H.Hall.view c.bound_of.new.hall).account.work
    (g.H.Hall.view c.release_all.new.hall).account.work call c.args.stop (c.in-Ok.ensures.work call.stored
    (call-bound (g.H.Hall.view c.args.hall.now).seat c.args.innermost c.args.stop call held))
    (ap (λ (a : Account). a.work) c.release_all.ensures.rest.account ∙ c.in-Err-node_of.ensures.idle)

pub release_all-requires : goal.release_all-requires
release_all-requires g c =
    let built = c.in-Ok.ensures.answer c.requires.0.stored
    (call-bound (g.H.Hall.view c.args.hall.now).seat c.args.innermost c.args.stop c.requires.0 c.requires.1)
    in (
      built.0,
      bounded-held (g.H.Hall.view c.args.hall.now).seat (g.H.Hall.view c.bound_of.new.hall).seat
          (g.H.Hall.view c.node_of.new.hall).seat c.args.innermost c.args.stop c.requires.0 c.in-Ok.bounded
          c.as_slice-in-Err-node_of.result.now c.requires.1 c.as_slice-in-Err-node_of.ensures built
          (c.in-Err-node_of.ensures.answer built.0
          (held-bounded (g.H.Hall.view c.args.hall.now).seat (g.H.Hall.view c.bound_of.new.hall).seat
          c.args.innermost
          c.args.stop c.requires.0 c.in-Ok.bounded c.as_slice.result.now c.requires.1 c.as_slice.ensures
          built)),
    )

pub returns-clause-answer : goal.returns-clause-answer
returns-clause-answer g c call held =
    let built = c.in-Ok.ensures.answer call.stored
    (call-bound (g.H.Hall.view c.args.hall.now).seat c.args.innermost c.args.stop call held) in
    let kept = c.in-Err-node_of.ensures.answer built.0
    (held-bounded (g.H.Hall.view c.args.hall.now).seat (g.H.Hall.view c.bound_of.new.hall).seat
    c.args.innermost
    c.args.stop
    call c.in-Ok.bounded c.as_slice.result.now held c.as_slice.ensures built) in
    let gone = c.release_all.ensures.gone built.0
    (bounded-held (g.H.Hall.view c.args.hall.now).seat (g.H.Hall.view c.bound_of.new.hall).seat
    (g.H.Hall.view c.node_of.new.hall).seat c.args.innermost c.args.stop call c.in-Ok.bounded
    c.as_slice-in-Err-node_of.result.now held c.as_slice-in-Err-node_of.ensures built kept) in
    exchanges-then (g.H.Hall.view c.args.hall.now).seat (g.H.Hall.view c.bound_of.new.hall).seat
    (g.H.Hall.view c.release_all.new.hall).seat (stakes_held call.stored) (stakes_held built.0) [] built.3
    (exchanges-then (g.H.Hall.view c.bound_of.new.hall).seat (g.H.Hall.view c.node_of.new.hall).seat
    (g.H.Hall.view c.release_all.new.hall).seat (stakes_held built.0) (stakes_held built.0) [] kept gone)

pub returns-clause-spent : goal.returns-clause-spent
returns-clause-spent g c =
    spends_later (g.H.Hall.view c.node_of.new.hall).rooms (g.H.Hall.view c.release_all.new.hall).rooms
    c.in-Err-node_of.fault c.release_all.ensures.rest.rooms
    c.in-Err-node_of.ensures.spent

pub returns-in-Ok-node_of-clause-rest : goal.returns-in-Ok-node_of-clause-rest
returns-in-Ok-node_of-clause-rest g c =
    working_then (g.H.Hall.view c.args.hall.now) (g.H.Hall.view c.bound_of.new.hall)
    (g.H.Hall.view c.node_of.new.hall) c.in-Ok.ensures.rest c.in-Ok-node_of.ensures.rest

pub returns-clause-rest : goal.returns-clause-rest
returns-clause-rest g c =
    refused_then (g.H.Hall.view c.args.hall.now) (g.H.Hall.view c.node_of.new.hall)
    (g.H.Hall.view c.release_all.new.hall) c.in-Err-node_of.fault
    (building_then {X = ℕ} (g.H.Hall.view c.args.hall.now) (g.H.Hall.view c.bound_of.new.hall)
    (g.H.Hall.view c.node_of.new.hall) (Err c.in-Err-node_of.fault) c.in-Ok.ensures.rest
    c.in-Err-node_of.ensures.rest) c.release_all.ensures.rest

pub returns-in-Err-clause-reach : goal.returns-in-Err-clause-reach
returns-in-Err-clause-reach g c call held =
    c.in-Err.ensures.reach call.stored
    (call-bound (g.H.Hall.view c.args.hall.now).seat c.args.innermost c.args.stop call held)

pub returns-in-Ok-node_of-clause-reach : goal.returns-in-Ok-node_of-clause-reach
returns-in-Ok-node_of-clause-reach g c call held =
    others_more (g.H.Hall.view c.args.hall.now).seat (g.H.Hall.view c.node_of.new.hall).seat
    (stakes_held call.stored) _ (g.H.Hall.reaches c.args.hall.now) (g.H.Hall.reaches c.bound_of.new.hall)
    (g.H.Hall.reaches c.node_of.new.hall) (returns-in-Ok-node_of-clause-answer g c call held).2
    (c.in-Ok.ensures.reach call.stored
    (call-bound (g.H.Hall.view c.args.hall.now).seat c.args.innermost c.args.stop call held))
    c.in-Ok-node_of.ensures.reach

pub returns-clause-reach : goal.returns-clause-reach
returns-clause-reach g c call held =
    let bound = call-bound (g.H.Hall.view c.args.hall.now).seat c.args.innermost c.args.stop call held in
    let built = c.in-Ok.ensures.answer call.stored bound in
    let kept = c.in-Err-node_of.ensures.answer built.0
    (held-bounded (g.H.Hall.view c.args.hall.now).seat (g.H.Hall.view c.bound_of.new.hall).seat
    c.args.innermost c.args.stop call c.in-Ok.bounded c.as_slice.result.now held c.as_slice.ensures built) in
    others_more (g.H.Hall.view c.args.hall.now).seat (g.H.Hall.view c.release_all.new.hall).seat
    (stakes_held call.stored) [] (g.H.Hall.reaches c.args.hall.now) (g.H.Hall.reaches c.node_of.new.hall)
    (g.H.Hall.reaches c.release_all.new.hall) (returns-clause-answer g c call held)
    (others_more (g.H.Hall.view c.args.hall.now).seat (g.H.Hall.view c.node_of.new.hall).seat
    (stakes_held call.stored) (stakes_held built.0) (g.H.Hall.reaches c.args.hall.now)
    (g.H.Hall.reaches c.bound_of.new.hall) (g.H.Hall.reaches c.node_of.new.hall)
    (exchanges-then (g.H.Hall.view c.args.hall.now).seat (g.H.Hall.view c.bound_of.new.hall).seat
    (g.H.Hall.view c.node_of.new.hall).seat (stakes_held call.stored) (stakes_held built.0)
    (stakes_held built.0) built.3 kept) (c.in-Ok.ensures.reach call.stored bound)
    c.in-Err-node_of.ensures.reach) c.release_all.ensures.reach
