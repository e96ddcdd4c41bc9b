use Rattle.std.proofs.Common.{Err, map, refl}
use Rattle.node_key.specs.Tree.{nodes}
use Rattle.call_tree.specs.Passing.{closed_item}
use Rattle.builders.specs.Built.{items_in, stakes_held}
use Rattle.builders.specs.Builds.{nodes_in}
use Rattle.builders.specs.Calls.{calls_stakes, passed}
use Rattle.builders.proofs.CountingNodes.{leave-work, work-kept}
use Rattle.trace_base.specs.declared.stream.Event.TheVariants.{Leave}
use Rattle.builders.proofs.PassingCalls.{innermost-gone, leave-closes, left-by, left-passes}
use Rattle.builders.proofs.KeepingOthers.{others_last, others_passed}
use Rattle.builders.proofs.BuildingViews.{building_then}
use Rattle.builders.proofs.building.leave.Goals as goal

pub close-requires : goal.close-requires
close-requires g c = (
  c.requires.1,
  leave-closes (g.H.Hall.view c.args.hall.now).seat c.args.around.now.items c.args.innermost c.args.stop
      c.requires.0
      c.requires.1 c.requires.2,
)

pub returns-in-Err-clause-answer : goal.returns-in-Err-clause-answer
returns-in-Err-clause-answer g c calls call held =
    innermost-gone (g.H.Hall.view c.args.hall.now).seat (g.H.Hall.view c.close.new.hall).seat
    c.args.around.now.items
    c.args.around.now.items c.args.innermost (Leave c.args.stop) c.in-Err.fault calls call held refl
    (c.in-Err.ensures.answer call
    (leave-closes (g.H.Hall.view c.args.hall.now).seat c.args.around.now.items c.args.innermost c.args.stop
    calls
    call
    held))

pub with_item-requires : goal.with_item-requires
with_item-requires g c =
    let left = left-by (g.H.Hall.view c.args.hall.now).seat (g.H.Hall.view c.close.new.hall).seat
    c.args.around.now.items
    c.pop.new.self.items c.args.innermost c.in-Some.outer c.in-Ok.item c.args.stop c.requires.0 c.requires.1
    c.requires.2 c.in-Some.ensures.items (c.in-Ok.ensures.answer c.requires.1
    (leave-closes (g.H.Hall.view c.args.hall.now).seat c.args.around.now.items c.args.innermost c.args.stop
    c.requires.0
    c.requires.1 c.requires.2)) in
    (left.last, left.one, left.held)

pub returns-clause-answer : goal.returns-clause-answer
returns-clause-answer g c calls call held =
    let left = left-by (g.H.Hall.view c.args.hall.now).seat (g.H.Hall.view c.close.new.hall).seat
    c.args.around.now.items
    c.pop.new.self.items c.args.innermost c.in-Some.outer c.in-Ok.item c.args.stop calls call
    held c.in-Some.ensures.items (c.in-Ok.ensures.answer call
    (leave-closes (g.H.Hall.view c.args.hall.now).seat c.args.around.now.items c.args.innermost c.args.stop
    calls
    call held)) in
    left-passes (g.H.Hall.view c.args.hall.now).seat (g.H.Hall.view c.close.new.hall).seat
    (g.H.Hall.view c.with_item.new.hall).seat c.pop.new.self.items c.in-Some.outer c.in-Ok.item c.args.stop
    calls
    call
    c.with_item.result left (c.with_item.ensures.answer left.last left.one left.held)

pub returns-in-Err-clause-work : goal.returns-in-Err-clause-work
returns-in-Err-clause-work g c calls call held =
    leave-work (g.H.Hall.view c.args.hall.now).account.work (g.H.Hall.view c.close.new.hall).account.work
    (map passed calls)
    (passed call) c.args.stop (Err c.in-Err.fault) (c.in-Err.ensures.work call
    (leave-closes (g.H.Hall.view c.args.hall.now).seat c.args.around.now.items c.args.innermost c.args.stop
    calls
    call held))

pub returns-clause-work : goal.returns-clause-work
returns-clause-work g c calls call held =
    leave-work (g.H.Hall.view c.args.hall.now).account.work (g.H.Hall.view c.with_item.new.hall).account.work
    (map passed calls)
    (passed call) c.args.stop c.with_item.result
    (work-kept (g.H.Hall.view c.args.hall.now).account.work (g.H.Hall.view c.close.new.hall).account.work
    (g.H.Hall.view c.with_item.new.hall).account.work (nodes_in (items_in call.stored))
    (nodes (closed_item (passed call) c.args.stop).tree) c.with_item.result (c.in-Ok.ensures.work call
    (leave-closes (g.H.Hall.view c.args.hall.now).seat c.args.around.now.items c.args.innermost c.args.stop
    calls
    call held)) c.with_item.ensures.work)

pub returns-clause-rest : goal.returns-clause-rest
returns-clause-rest g c =
    building_then (g.H.Hall.view c.args.hall.now) (g.H.Hall.view c.close.new.hall)
    (g.H.Hall.view c.with_item.new.hall) c.with_item.result c.in-Ok.ensures.rest c.with_item.ensures.rest

pub returns-in-Err-clause-reach : goal.returns-in-Err-clause-reach
returns-in-Err-clause-reach g c calls call held =
    others_last (g.H.Hall.view c.args.hall.now).seat (calls_stakes calls) (stakes_held call.stored)
    (g.H.Hall.reaches c.args.hall.now) (g.H.Hall.reaches c.close.new.hall) (c.in-Err.ensures.reach call
    (leave-closes (g.H.Hall.view c.args.hall.now).seat c.args.around.now.items c.args.innermost c.args.stop
    calls call held))

pub returns-clause-reach : goal.returns-clause-reach
returns-clause-reach g c calls call held =
    others_passed (g.H.Hall.view c.args.hall.now).seat (g.H.Hall.view c.with_item.new.hall).seat calls call
    (Leave c.args.stop) c.pop.new.self.items c.with_item.result (g.H.Hall.reaches c.args.hall.now)
    (g.H.Hall.reaches c.close.new.hall) (g.H.Hall.reaches c.with_item.new.hall)
    (returns-clause-answer g c calls call held)
    (others_last (g.H.Hall.view c.args.hall.now).seat (calls_stakes calls) (stakes_held call.stored)
    (g.H.Hall.reaches c.args.hall.now) (g.H.Hall.reaches c.close.new.hall) (c.in-Ok.ensures.reach call
    (leave-closes (g.H.Hall.view c.args.hall.now).seat c.args.around.now.items c.args.innermost c.args.stop
    calls call held))) c.with_item.ensures.reach
