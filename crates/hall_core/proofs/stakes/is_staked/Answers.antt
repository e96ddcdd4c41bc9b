-- A kid that is wanting tells that there is no tree; where none is, the heights tell it.
use Rattle.std.proofs.Common.{◌≡◌, length, arith}
use Rattle.std.proofs.lemmas.Bool.{eq-eqb, eqb-true, false≢true}
use Rattle.store_laws.specs.Store.{kids_in}
use Rattle.hall_core.proofs.StakedKids.{so_far-end, so_far-more, wanting}
use Rattle.hall_core.proofs.stakes.is_staked.Goals as goal

pub returns-in_default : goal.returns-in_default
returns-in_default c = (
  λ no. absurd (false≢true no),
  λ staked. absurd (wanting c.args.stakes.now c.args.key.now c.loop-kid.kid-index _ c.requires
      c.loop-kid-test.true c.in_default.ensures.none staked.0 staked.1 staked.2),
)

pub loop-kid-preserved : goal.loop-kid-preserved
loop-kid-preserved c =
    let some = c.in-Some.ensures.some in
    so_far-more c.args.stakes.now (kids_in c.args.key.now) c.max-height.result c.loop-kid.height
    c.loop-kid.kid-index _ c.in-Some.tree.now c.loop-kid.invariant c.loop-kid-test.true some.0 some.1 some.2
    (omega (arith, c.max-height.ensures, c.height.ensures.value))

pub returns : goal.returns
returns c =
    let len : length (kids_in c.args.key.now) ≡ c.args.key.now.len = omega arith in
    let end = so_far-end c.args.stakes.now c.args.key.now c.loop-kid.height c.loop-kid.kid-index c.requires
    c.loop-kid.invariant c.loop-kid-test.false len in (
      λ same. end.0 (omega (arith, c.from-2.ensures, eqb-true c.from-2.result c.loop-kid.height same)),
      λ staked. eq-eqb c.from-2.result c.loop-kid.height (omega (arith, c.from-2.ensures, end.1 staked)),
    )
