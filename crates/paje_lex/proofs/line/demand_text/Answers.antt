use Rattle.std.proofs.lemmas.Str.{IsUtf8-from_ascii}
use Rattle.paje_lex.proofs.line.demand_text.Goals as goal

pub returns-then-is_ascii : goal.returns-then-is_ascii
returns-then-is_ascii c = IsUtf8-from_ascii c.args.line.now c.if-is_ascii.ensures.cases
