use Rattle.std.proofs.Common.{arith}
use Rattle.builders.specs.declared.built.BuiltItem.{BuiltItem}
use Rattle.builders.proofs.Interning.{Releasing-next}
use Rattle.builders.proofs.KeepingOthers.{reach_released}
use Rattle.hall_trait.proofs.Views.{goes_on_then}
use Rattle.builders.proofs.nodes.release_all.Goals as goal

abbrev none : BuiltItem
none = record { at = 0; dur = 0; height = 0; number = 0 }

pub release-requires : goal.release-requires
release-requires g c =
    let next = Releasing-next (g.H.Hall.view c.args.hall.now).seat (g.H.Hall.view c.loop-item.hall).seat
    c.args.items.now
    c.loop-item.item-index none c.loop-item.invariant.releasing (omega arith) c.requires.0 c.requires.1 in
    (next.0, next.1)

pub loop-item-preserved : goal.loop-item-preserved
loop-item-preserved g c = record {
  releasing = λ stored held. let next = Releasing-next (g.H.Hall.view c.args.hall.now).seat
      (g.H.Hall.view c.loop-item.hall).seat c.args.items.now c.loop-item.item-index none
      c.loop-item.invariant.releasing (omega arith) stored held in
      next.2 (g.H.Hall.view c.release.new.self).seat (c.release.ensures.answer next.0 next.1);
  reach = let next = Releasing-next (g.H.Hall.view c.args.hall.now).seat (g.H.Hall.view c.loop-item.hall).seat
      c.args.items.now c.loop-item.item-index none c.loop-item.invariant.releasing (omega arith) c.requires.0
      c.requires.1 in
      reach_released (g.H.Hall.view c.loop-item.hall).seat (g.H.Hall.view c.release.new.self).seat _
      (g.H.Hall.reaches c.args.hall.now) (g.H.Hall.reaches c.loop-item.hall)
      (g.H.Hall.reaches c.release.new.self) (c.release.ensures.answer next.0 next.1)
      c.loop-item.invariant.reach c.release.ensures.reach;
  rest = goes_on_then (g.H.Hall.view c.args.hall.now) (g.H.Hall.view c.loop-item.hall)
      (g.H.Hall.view c.release.new.self) c.loop-item.invariant.rest c.release.ensures.rest;
}
