use Rattle.std.proofs.Common.{arith}
use Rattle.paje_lex.proofs.Scaling.{raised_above}
use Rattle.paje_lex.proofs.powers.raised.Goals as goal

pub returns-then-places-gt19 : goal.returns-then-places-gt19
returns-then-places-gt19 c = raised_above c.args.head c.args.places (omega arith) (omega arith)
