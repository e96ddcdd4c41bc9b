use Rattle.node_store.proofs.KidLoops.{handing_begins, handing_goes_on, has_kid, taking_ends}
use Rattle.node_store.proofs.store.NodeStore.hand_over_kids.Goals as goal

pub loop-kid-init : goal.loop-kid-init
loop-kid-init c = handing_begins c.args.self.now _ c.requires.sound

pub hand_over-requires : goal.hand_over-requires
hand_over-requires c = has_kid c.args.self.now c.loop-kid.self _ c.loop-kid.kid-index _
    c.loop-kid.invariant.taking c.loop-kid-test.true c.requires.staked

pub loop-kid-preserved : goal.loop-kid-preserved
loop-kid-preserved c = handing_goes_on c.args.self.now c.loop-kid.self c.hand_over.new.self _
    c.loop-kid.kid-index _
    c.loop-kid.invariant c.loop-kid-test.true c.requires.staked c.hand_over.ensures.numbers
    c.hand_over.ensures.stakes
    c.hand_over.ensures.rooms c.hand_over.ensures.sound

pub returns-clause-stakes : goal.returns-clause-stakes
returns-clause-stakes c = taking_ends c.args.self.now c.loop-kid.self _ c.loop-kid.kid-index
    c.loop-kid.invariant.taking c.loop-kid-test.false

pub returns-clause-numbers : goal.returns-clause-numbers
returns-clause-numbers c = c.loop-kid.invariant.taking.numbers

pub returns-clause-sound : goal.returns-clause-sound
returns-clause-sound c = c.loop-kid.invariant.sound
