use Rattle.std.proofs.Common.{sym, arith}
use Rattle.list_lemmas.proofs.Digits.{ten_pow_pos}
use Rattle.paje_lex.proofs.Scaling.{head_below_pow}
use Rattle.paje_lex.proofs.powers.lowered.Goals as goal

pub nonzero_div-result : goal.nonzero_div-result
nonzero_div-result c = omega (arith, c.pow.ensures, ten_pow_pos c.args.places)

pub returns-else-places-lt20 : goal.returns-else-places-lt20
returns-else-places-lt20 c =
    sym (head_below_pow c.args.head c.args.places (omega arith) c.if-places-lt20.false)
