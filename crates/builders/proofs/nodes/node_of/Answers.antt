use Rattle.builders.specs.Built.{items_in, stakes_held}
use Rattle.node_key.specs.Items.{node}
use Rattle.builders.proofs.Interning.{held-low, held-within, node-built, node-refused}
use Rattle.node_key.proofs.Kids.{FitBetween-le}
use Rattle.builders.proofs.BuildingViews.{interned_goes_on, interned_work, refused_goes_on, refused_work}
use Rattle.builders.proofs.Spending.{interned_spends}
use Rattle.builders.proofs.nodes.node_of.Goals as goal

pub key_of-key-requires-clause-within : goal.key_of-key-requires-clause-within
key_of-key-requires-clause-within g c =
    held-within (g.H.Hall.view c.args.hall.now).seat c.args.start c.args.end c.args.items.now
    c.requires.held.0
    c.requires.held.1

pub key_of-key-requires-clause-low : goal.key_of-key-requires-clause-low
key_of-key-requires-clause-low g c =
    held-low (g.H.Hall.view c.args.hall.now).seat c.args.start c.args.end c.args.items.now c.requires.held.0
    c.requires.held.1

pub overflow_sub-result : goal.overflow_sub-result
overflow_sub-result g c = FitBetween-le c.args.start c.args.end (items_in c.requires.held.0)
    c.requires.held.1.placed

pub returns-in-Ok-clause-answer : goal.returns-in-Ok-clause-answer
returns-in-Ok-clause-answer g c stored held =
    let over = c.key_of-key.ensures stored held.are in
    node-built (g.H.Hall.view c.args.hall.now).seat (g.H.Hall.view c.intern.new.self).seat c.args.func
    c.args.start
    c.args.end c.args.items.now stored c.key_of-key.result c.in-Ok.interned c.number_of.result over
    c.number_of.ensures
    (c.in-Ok.ensures.answer (node c.args.func c.args.start c.args.end (items_in stored)) (stakes_held stored)
    over
    held.stakes)

pub returns-in-Err-clause-answer : goal.returns-in-Err-clause-answer
returns-in-Err-clause-answer g c stored held =
    node-refused (g.H.Hall.view c.args.hall.now).seat (g.H.Hall.view c.intern.new.self).seat
    (node c.args.func c.args.start c.args.end (items_in stored)) (stakes_held stored) c.in-Err.fault
    (c.in-Err.ensures.answer (node c.args.func c.args.start c.args.end (items_in stored)) (stakes_held stored)
    (c.key_of-key.ensures stored held.are) held.stakes)

pub returns-in-Err-clause-spent : goal.returns-in-Err-clause-spent
returns-in-Err-clause-spent g c =
    interned_spends (g.H.Hall.view c.args.hall.now).rooms (g.H.Hall.view c.intern.new.self).rooms
    c.key_of-key.result
    c.in-Err.fault c.intern.ensures.rest.rooms
    c.in-Err.ensures.tells

pub returns-in-Ok-clause-rest : goal.returns-in-Ok-clause-rest
returns-in-Ok-clause-rest g c =
    interned_goes_on (g.H.Hall.view c.args.hall.now) (g.H.Hall.view c.intern.new.self) c.in-Ok.interned
    c.in-Ok.ensures.rest

pub returns-in-Err-clause-rest : goal.returns-in-Err-clause-rest
returns-in-Err-clause-rest g c =
    let stored = c.requires.held.0 in
    let held = c.requires.held.1 in
    refused_goes_on (g.H.Hall.view c.args.hall.now) (g.H.Hall.view c.intern.new.self)
    (node c.args.func c.args.start c.args.end (items_in stored)) (stakes_held stored) c.in-Err.fault
    (c.in-Err.ensures.answer (node c.args.func c.args.start c.args.end (items_in stored)) (stakes_held stored)
    (c.key_of-key.ensures stored held.are) held.stakes) c.in-Err.ensures.rest

pub returns-in-Ok-clause-work : goal.returns-in-Ok-clause-work
returns-in-Ok-clause-work g c =
    interned_work (g.H.Hall.view c.args.hall.now) (g.H.Hall.view c.intern.new.self) c.in-Ok.interned
    c.in-Ok.ensures.rest

pub returns-in-Err-clause-idle : goal.returns-in-Err-clause-idle
returns-in-Err-clause-idle g c =
    refused_work (g.H.Hall.view c.args.hall.now) (g.H.Hall.view c.intern.new.self) c.in-Err.fault
    c.in-Err.ensures.rest
