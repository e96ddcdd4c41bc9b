use Rattle.node_store.proofs.KidLoops.{has_kid, releasing_begins, releasing_goes_on, taking_ends}
use Rattle.node_store.proofs.store.NodeStore.release_kids.Goals as goal

pub loop-kid-init : goal.loop-kid-init
loop-kid-init c = releasing_begins c.args.self.now _ c.requires.sound

pub release-requires-clause-staked : goal.release-requires-clause-staked
release-requires-clause-staked c = has_kid c.args.self.now c.loop-kid.self _ c.loop-kid.kid-index _
    c.loop-kid.invariant.taking c.loop-kid-test.true c.requires.staked

pub release-requires-clause-kept : goal.release-requires-clause-kept
release-requires-clause-kept c =
    (c.requires.kept.0, c.loop-kid.invariant.keeps c.requires.kept.0 c.requires.kept.1)

pub loop-kid-preserved : goal.loop-kid-preserved
loop-kid-preserved c = releasing_goes_on c.args.self.now c.loop-kid.self c.release.new.self _
    c.loop-kid.kid-index _
    c.loop-kid.invariant c.loop-kid-test.true c.requires.staked c.release.ensures.numbers
    c.release.ensures.stakes
    c.release.ensures.kept c.release.ensures.next c.release.ensures.sound

pub returns-clause-stakes : goal.returns-clause-stakes
returns-clause-stakes c = taking_ends c.args.self.now c.loop-kid.self _ c.loop-kid.kid-index
    c.loop-kid.invariant.taking c.loop-kid-test.false

pub returns-clause-numbers : goal.returns-clause-numbers
returns-clause-numbers c = c.loop-kid.invariant.taking.numbers

pub returns-clause-sound : goal.returns-clause-sound
returns-clause-sound c = c.loop-kid.invariant.sound
