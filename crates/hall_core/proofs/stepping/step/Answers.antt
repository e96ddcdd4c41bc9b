use Rattle.hall_core.specs.declared.events.HallEvent.TheVariants as event
use Rattle.std.proofs.Common.{None}
use Rattle.hall_core.proofs.ReadsThere.{is-node, number_read, read-there}
use Rattle.hall_core.proofs.StepsGood.{steps-good}
use Rattle.hall_core.proofs.stepping.step.Goals as goal

pub node-requires : goal.node-requires
node-requires c =
    rw (c.as_slice.ensures, c.in-Read-Node.is, is-node c.in-Read-Node.field-0)
    (read-there c.args.w.now c.args.actor (number_read c.in-Read-Node.field-0) c.requires.good
    (rw (c.in-Read-Node.is, is-node c.in-Read-Node.field-0) at c.requires.allowed))

pub returns-in-Intern-clause-good : goal.returns-in-Intern-clause-good
returns-in-Intern-clause-good c =
    steps-good _ _ _ (event.Intern c.in-Intern.key) c.intern.result c.requires.good
    (rw c.in-Intern.is at c.requires.allowed) c.intern.ensures

pub returns-in-Drop-clause-good : goal.returns-in-Drop-clause-good
returns-in-Drop-clause-good c =
    steps-good _ _ _ (event.Drop c.in-Drop.n) c.give_back.result c.requires.good
    (rw c.in-Drop.is at c.requires.allowed) c.give_back.ensures

pub returns-in-Split-None-clause-good : goal.returns-in-Split-None-clause-good
returns-in-Split-None-clause-good c =
    let none = rw c.in-Split-None.is at c.in-Split-None.field-0-is in
    steps-good _ _ _ (event.Split None) c.split.result c.requires.good
    (rw (c.in-Split-None.is, none) at c.requires.allowed) c.split.ensures

pub returns-in-Join-clause-good : goal.returns-in-Join-clause-good
returns-in-Join-clause-good c =
    steps-good _ _ _ (event.Join c.in-Join.other) c.join.result c.requires.good
    (rw c.in-Join.is at c.requires.allowed) c.join.ensures
