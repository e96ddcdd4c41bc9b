-- Any other stake on the number has the same tree.
use Rattle.std.proofs.Common.{sym, ◌∙◌, arith}
use Rattle.node_key.specs.Stakes.{stake}
use Rattle.hall_core.proofs.StakedKids.{one_dur}
use Rattle.hall_core.proofs.stakes.kid_tree.Goals as goal
use Rattle.hall_core.proofs.stakes.kid_tree.Goals.{else-dur-kid-via-then-dur-kid+else-kids_on-count_on}
use Rattle.hall_core.proofs.stakes.kid_tree.Goals.{else-dur-kid-via-else-dur-kid}

pub returns-else-dur-kid-clause-none : goal.returns-else-dur-kid-clause-none
returns-else-dur-kid-clause-none c x there number span = elim c.else-dur-kid.branch [
  | else-dur-kid-via-then-dur-kid+else-kids_on-count_on w ↦ omega arith
  | else-dur-kid-via-else-dur-kid w ↦ (
      let own = stake c.args.kid.node c.in-Some.tree.now in
      let same = one_dur c.args.stakes.now own x c.requires c.in-Some.ensures.some there (sym number) in
      absurd (w.if-dur-kid.false (c.dur.ensures.value ∙ same ∙ span)))
]
