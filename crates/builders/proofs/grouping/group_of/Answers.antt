use Rattle.std.proofs.Common.{arith}
use Rattle.trace_base.specs.declared.limits.TheConstants.{MAX_TIME}
use Rattle.builders.specs.declared.built.BuiltItem.{BuiltItem}
use Rattle.builders.proofs.ChunkGroups.{group-work, group_built, held-own, one-work, one_item}
use Rattle.builders.proofs.Interning.{held-within}
use Rattle.builders.proofs.grouping.group_of.Goals as goal

abbrev none : BuiltItem
none = record { at = 0; dur = 0; height = 0; number = 0 }

pub returns-then-chunk-eq1-clause-answer : goal.returns-then-chunk-eq1-clause-answer
returns-then-chunk-eq1-clause-answer g c stored held =
    one_item (g.H.Hall.view c.args.hall.now).seat 0 MAX_TIME c.args.chunk.now stored none held
    c.if-chunk-eq1.true

pub stop-requires-clause-placed : goal.stop-requires-clause-placed
stop-requires-clause-placed g c =
    held-within (g.H.Hall.view c.args.hall.now).seat 0 MAX_TIME c.args.chunk.now c.requires.held.0
    c.requires.held.1

pub node_of-requires-clause-held : goal.node_of-requires-clause-held
node_of-requires-clause-held g c =
    let stored = c.requires.held.0 in
    let held = c.requires.held.1 in (
      stored,
      held-own (g.H.Hall.view c.args.hall.now).seat 0 MAX_TIME c.start.result c.stop.result c.args.chunk.now
          stored
          held
          c.requires.some (c.start.ensures stored held.are) (c.stop.ensures stored held.are),
    )

pub returns-clause-answer : goal.returns-clause-answer
returns-clause-answer g c stored held =
    let starts = c.start.ensures stored held.are in
    let stops = c.stop.ensures stored held.are in
    group_built (g.H.Hall.view c.args.hall.now).seat (g.H.Hall.view c.node_of.new.hall).seat c.start.result
    c.stop.result
    c.args.chunk.now stored c.node_of.result held.are starts stops
    (omega (arith, c.requires.some, c.if-chunk-eq1.false)) (c.node_of.ensures.answer stored
    (held-own (g.H.Hall.view c.args.hall.now).seat 0 MAX_TIME c.start.result c.stop.result c.args.chunk.now
    stored
    held
    c.requires.some starts stops))

pub returns-then-chunk-eq1-clause-work : goal.returns-then-chunk-eq1-clause-work
returns-then-chunk-eq1-clause-work g c stored held =
    one-work (g.H.Hall.view c.args.hall.now).account.work c.args.chunk.now stored held.are c.if-chunk-eq1.true

pub returns-clause-work : goal.returns-clause-work
returns-clause-work g c stored held =
    group-work (g.H.Hall.view c.args.hall.now).account.work (g.H.Hall.view c.node_of.new.hall).account.work
    c.args.chunk.now stored
    c.node_of.result held.are (omega (arith, c.requires.some, c.if-chunk-eq1.false)) c.node_of.ensures.work
    c.node_of.ensures.idle
