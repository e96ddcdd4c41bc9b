-- The next stake is one that is still there, and what is taken is that one.
use Rattle.std.proofs.Common.{◌∙◌}
use Rattle.hall_core.proofs.StakesTaken.{next_taken, next_there, taken-end}
use Rattle.hall_core.proofs.stakes.take_kids.Goals as goal

pub take_stake-requires : goal.take_stake-requires
take_stake-requires c =
    let staked = c.requires.staked in
    next_there c.args.key.now c.args.stakes.now.items c.loop-kid.stakes.items c.loop-kid.kid-index _
    c.loop-kid-test.true staked.0 staked.1 staked.2 (c.loop-kid.invariant.taken staked.0 staked.1 staked.2)

pub loop-kid-preserved : goal.loop-kid-preserved
loop-kid-preserved c =
    let took = c.take_stake.ensures in
    record {
      taken = λ t kids staked.
          next_taken c.args.key.now c.args.stakes.now.items c.loop-kid.stakes.items c.loop-kid.kid-index _
          c.loop-kid-test.true t kids staked c.take_stake.new.stakes.items c.take_stake.result c.requires.one
          (c.loop-kid.invariant.taken t kids staked) took.number took.among took.rest;
      space = took.space ∙ c.loop-kid.invariant.space;
    }

pub returns-clause-rest : goal.returns-clause-rest
returns-clause-rest c =
    taken-end c.args.key.now c.args.stakes.now.items c.loop-kid.stakes.items c.loop-kid.kid-index
    c.loop-kid.invariant.taken c.loop-kid-test.false
