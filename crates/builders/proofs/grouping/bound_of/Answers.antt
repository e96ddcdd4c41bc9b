use Rattle.std.proofs.Common.{[], ℕ, Err, arith}
use Rattle.builders.specs.Built.{stakes_held}
use Rattle.builders.proofs.Bags.{exchanges-then}
use Rattle.builders.proofs.BoundingItems.{BoundingItems-end, BoundingItems-more, BoundingItems-start}
use Rattle.builders.proofs.BoundingItems.{BoundingItems-work, bounding-refused, groups-fewer, held-next}
use Rattle.builders.proofs.KeepingOthers.{others_then}
use Rattle.builders.proofs.BuildingViews.{building_then, working_same, working_then}
use Rattle.builders.proofs.grouping.bound_of.Goals as goal

pub levels-init : goal.levels-init
levels-init g c = record {
  bounding = BoundingItems-start (g.H.Hall.view c.args.hall.now).seat
      (g.H.Hall.view c.args.hall.now).account.work c.args.items
      c.len-number.result c.len-number.ensures (omega (arith, c.len-number.type_inv));
  reach = λ stored held by_what n t has led. led;
  rest = working_same (g.H.Hall.view c.args.hall.now);
}

pub grouped_of-requires : goal.grouped_of-requires
grouped_of-requires g c =
    let here = c.levels.invariant.bounding.so_far c.requires.0 c.requires.1 in (
      here.left,
      held-next (g.H.Hall.view c.args.hall.now).seat (g.H.Hall.view c.levels.hall).seat
          (g.H.Hall.view c.args.hall.now).account.work (g.H.Hall.view c.levels.hall).account.work
          c.args.items c.levels.bounded
          c.requires.0 c.requires.1 here,
    )

pub levels-smaller : goal.levels-smaller
levels-smaller g c =
    let here = c.levels.invariant.bounding in
    let so_far = here.so_far c.requires.0 c.requires.1 in
    omega (
      arith,
      c.len-number-in-levels.ensures,
      here.number_is,
      groups-fewer (g.H.Hall.view c.args.hall.now).seat (g.H.Hall.view c.levels.hall).seat
          (g.H.Hall.view c.grouped_of.new.hall).seat (g.H.Hall.view c.args.hall.now).account.work
          (g.H.Hall.view c.levels.hall).account.work
          c.args.items c.levels.bounded c.in-Ok.groups c.requires.0 (omega (arith, here.number_is)) so_far
          (c.in-Ok.ensures.answer so_far.left
          (held-next (g.H.Hall.view c.args.hall.now).seat (g.H.Hall.view c.levels.hall).seat
          (g.H.Hall.view c.args.hall.now).account.work (g.H.Hall.view c.levels.hall).account.work c.args.items
          c.levels.bounded
          c.requires.0 c.requires.1 so_far)),
    )

pub levels-preserved : goal.levels-preserved
levels-preserved g c = record {
  bounding = BoundingItems-more (g.H.Hall.view c.args.hall.now).seat (g.H.Hall.view c.levels.hall).seat
      (g.H.Hall.view c.grouped_of.new.hall).seat (g.H.Hall.view c.args.hall.now).account.work
      (g.H.Hall.view c.levels.hall).account.work
      (g.H.Hall.view c.grouped_of.new.hall).account.work c.args.items c.levels.bounded c.in-Ok.groups
      c.levels.number
      c.len-number-in-levels.result c.levels.invariant.bounding (omega arith) c.in-Ok.ensures.answer
      c.in-Ok.ensures.work c.len-number-in-levels.ensures;
  reach = λ stored held.
      let so_far = c.levels.invariant.bounding.so_far stored held in
      others_then (g.H.Hall.view c.args.hall.now).seat (g.H.Hall.view c.levels.hall).seat (stakes_held stored)
      (stakes_held so_far.left) (g.H.Hall.reaches c.args.hall.now) (g.H.Hall.reaches c.levels.hall)
      (g.H.Hall.reaches c.grouped_of.new.hall) so_far.exchanged (c.levels.invariant.reach stored held)
      (c.in-Ok.ensures.reach so_far.left
      (held-next (g.H.Hall.view c.args.hall.now).seat (g.H.Hall.view c.levels.hall).seat
      (g.H.Hall.view c.args.hall.now).account.work (g.H.Hall.view c.levels.hall).account.work c.args.items
      c.levels.bounded stored held so_far));
  rest = working_then (g.H.Hall.view c.args.hall.now) (g.H.Hall.view c.levels.hall)
      (g.H.Hall.view c.grouped_of.new.hall) c.levels.invariant.rest c.in-Ok.ensures.rest;
}

pub returns-in-Err-clause-answer : goal.returns-in-Err-clause-answer
returns-in-Err-clause-answer g c stored held =
    let so_far = c.levels.invariant.bounding.so_far stored held in
    exchanges-then (g.H.Hall.view c.args.hall.now).seat (g.H.Hall.view c.levels.hall).seat
    (g.H.Hall.view c.grouped_of.new.hall).seat (stakes_held stored) (stakes_held so_far.left) []
    so_far.exchanged
    (c.in-Err.ensures.answer so_far.left
    (held-next (g.H.Hall.view c.args.hall.now).seat (g.H.Hall.view c.levels.hall).seat
    (g.H.Hall.view c.args.hall.now).account.work (g.H.Hall.view c.levels.hall).account.work c.args.items
    c.levels.bounded
    stored held so_far))

pub returns-clause-answer : goal.returns-clause-answer
returns-clause-answer g c stored held =
    BoundingItems-end (g.H.Hall.view c.args.hall.now).seat (g.H.Hall.view c.levels.hall).seat
    (g.H.Hall.view c.args.hall.now).account.work (g.H.Hall.view c.levels.hall).account.work c.args.items
    c.levels.bounded
    stored (omega (arith, c.levels.invariant.bounding.number_is))
    (c.levels.invariant.bounding.so_far stored held)

pub returns-clause-work : goal.returns-clause-work
returns-clause-work g c stored held =
    BoundingItems-work (g.H.Hall.view c.args.hall.now).seat (g.H.Hall.view c.levels.hall).seat
    (g.H.Hall.view c.args.hall.now).account.work (g.H.Hall.view c.levels.hall).account.work c.args.items
    c.levels.bounded
    stored (omega (arith, c.levels.invariant.bounding.number_is))
    (c.levels.invariant.bounding.so_far stored held)

pub returns-in-Err-clause-work : goal.returns-in-Err-clause-work
returns-in-Err-clause-work g c stored held =
    let so_far = c.levels.invariant.bounding.so_far stored held in
    bounding-refused (g.H.Hall.view c.args.hall.now).seat (g.H.Hall.view c.levels.hall).seat
    (g.H.Hall.view c.args.hall.now).account.work (g.H.Hall.view c.levels.hall).account.work
    (g.H.Hall.view c.grouped_of.new.hall).account.work
    c.levels.bounded stored (omega (arith, c.levels.invariant.bounding.number_is)) so_far
    (c.in-Err.ensures.work so_far.left
    (held-next (g.H.Hall.view c.args.hall.now).seat (g.H.Hall.view c.levels.hall).seat
    (g.H.Hall.view c.args.hall.now).account.work
    (g.H.Hall.view c.levels.hall).account.work c.args.items c.levels.bounded stored held so_far))

pub returns-in-Err-clause-rest : goal.returns-in-Err-clause-rest
returns-in-Err-clause-rest g c =
    building_then {X = ℕ} (g.H.Hall.view c.args.hall.now) (g.H.Hall.view c.levels.hall)
    (g.H.Hall.view c.grouped_of.new.hall) (Err c.in-Err.fault) c.levels.invariant.rest c.in-Err.ensures.rest

pub returns-clause-reach : goal.returns-clause-reach
returns-clause-reach g c = c.levels.invariant.reach

pub returns-in-Err-clause-reach : goal.returns-in-Err-clause-reach
returns-in-Err-clause-reach g c stored held =
    let so_far = c.levels.invariant.bounding.so_far stored held in
    others_then (g.H.Hall.view c.args.hall.now).seat (g.H.Hall.view c.levels.hall).seat (stakes_held stored)
    (stakes_held so_far.left) (g.H.Hall.reaches c.args.hall.now) (g.H.Hall.reaches c.levels.hall)
    (g.H.Hall.reaches c.grouped_of.new.hall) so_far.exchanged (c.levels.invariant.reach stored held)
    (c.in-Err.ensures.reach so_far.left
    (held-next (g.H.Hall.view c.args.hall.now).seat (g.H.Hall.view c.levels.hall).seat
    (g.H.Hall.view c.args.hall.now).account.work (g.H.Hall.view c.levels.hall).account.work c.args.items
    c.levels.bounded stored held so_far))
